-- What is read from bits are exactly the fields that a course allows.
use Rattle.bufr_base.specs.Answers.{◌>>=◌}
use Rattle.std.proofs.Common.{◌≡◌, ℕ, zero, suc, ◌+◌, ◌/◌, ◌^◌, Bool, true, false, cond, List, []}
use Rattle.std.proofs.Common.{◌∷◌, ◌++◌, length, Option, Some, None, Result, Ok, Err, refl, sym, ap}
use Rattle.std.proofs.Common.{subst, ◌∙◌, append_assoc}
use Rattle.std.specs.Prelude.{◌==◌, ◌&&◌, nat_lt, nat_le, option_map}
use Rattle.std.specs.List.{list_all}
use Rattle.std.proofs.lemmas.Bool.{and_parts, lt-ltb, ltb-true, eqb-true, eq-eqb}
use Rattle.bufr_bits.specs.Bits.{bin, number_at, numbers_at}
use Rattle.bufr_bits.specs.BitLaws.{number_at-bin, number_at_is, some_is}
use Rattle.bufr_bits.specs.NumberLaws.{numbers_at_again, numbers_at_found}
use Rattle.bufr_tables.specs.declared.element.Kind.{Kind}
use Rattle.bufr_tables.specs.declared.element.Kind.TheVariants as kinds
use Rattle.bufr_tables.specs.Elements.{same_kind}
use Rattle.bufr_base.specs.AnswerLaws.{bind_ok, ok_is}
use Rattle.bufr_expand.specs.declared.operators.Spec.{Spec}
use Rattle.bufr_expand.specs.declared.walk.WalkFault.{WalkFault}
use Rattle.bufr_expand.specs.declared.walk.WalkFault.TheVariants as walks
use Rattle.bufr_expand.specs.Courses.{Course, ends, stops, asks}
use Rattle.bufr_fields.specs.declared.field.Raw.{Raw}
use Rattle.bufr_fields.specs.declared.field.Raw.TheVariants.{Number, Text}
use Rattle.bufr_fields.specs.declared.field.Field.{Field}
use Rattle.bufr_fields.specs.declared.fault.DataFault.{DataFault}
use Rattle.bufr_fields.specs.declared.field.Subset.{Subset}
use Rattle.bufr_data.specs.Plain.{raw_bits, field_bits, plain, plain_subsets, SubsetRead}
use Rattle.bufr_data.specs.Plain.{SubsetsRead, field_number_at, raw_at_by, raw_at, field_then}
use Rattle.bufr_data.specs.Plain.{stopped, fields_at, subsets_at}
use Rattle.bufr_fields.specs.Forms.{number_of, has_form_by, matches_spec, items_of, items_of_all}
use Rattle.bufr_fields.specs.FormLaws.{asked_is, asked_passes, form_passes, form_is, octets_are}
use Rattle.bufr_fields.specs.FormLaws.{octets_pass}
use Rattle.bufr_fields.specs.FitLaws.{guard_ok}
pub mod Alike
pub mod Copied
pub mod Filled
pub mod Even
pub mod Handed
pub mod LaidTurns
pub mod NumberTurns
pub mod UnaskedTurns
pub mod Layouts
pub mod Passed
pub mod Placed
pub mod Reads
pub mod Refusals
pub mod Shown
pub mod Starts
pub mod Subsets
pub mod Writes

number_again : (width n : ℕ) (rest : List Bool) → (nat_le width 64 && nat_lt n (2 ^ width)) ≡ true
    → option_map {U = Raw × List Bool} (λ x. (Number x.0, x.1))
    (field_number_at width (bin width n ++ rest)) ≡ Some (Number n, rest)
number_again width n rest e =
    let p = and_parts (nat_le width 64) (nat_lt n (2 ^ width)) e in
    rw (p.0, number_at-bin width n rest (ltb-true n (2 ^ width) p.1)) refl

pub raw_again : (kind : Kind) (width : ℕ) (raw : Raw) (rest : List Bool)
    → has_form_by kind width raw ≡ true
    → raw_at_by kind width (raw_bits width raw ++ rest) ≡ Some (raw, rest)
raw_again kinds.Text width (Text os) rest e =
    let p = and_parts (length os == width / 8) (list_all (λ c. nat_lt c 256) os) e in
    let size : length os ≡ width / 8 = eqb-true _ _ p.0 in
    rw (numbers_at_again 8 (width / 8) os rest size (octets_are os p.1)) refl
raw_again kinds.Text width (Number n) rest e = absurd cc
raw_again kinds.Code width (Number n) rest e = number_again width n rest e
raw_again kinds.Flag width (Number n) rest e = number_again width n rest e
raw_again kinds.Quantity width (Number n) rest e = number_again width n rest e
raw_again kinds.Count width (Number n) rest e = number_again width n rest e
raw_again kinds.Code width (Text os) rest e = absurd cc
raw_again kinds.Flag width (Text os) rest e = absurd cc
raw_again kinds.Quantity width (Text os) rest e = absurd cc
raw_again kinds.Count width (Text os) rest e = absurd cc

pub fields_at-plain : (j i : ℕ) (c : Course) (fs : List Field) (n : ℕ) (rest : List Bool)
    → items_of j i c fs ≡ Ok n
    → fields_at j i c (plain fs ++ rest) ≡ Ok (record { fields = fs; items = n; rest = rest })
unfolding items_of fields_at
fields_at-plain j i (ends m) [] n rest e =
    ap (λ k. Ok (record { fields = []; items = k; rest = rest })) (ok_is m n e)
fields_at-plain j i (ends m) (f ∷ fs) n rest e = absurd cc
fields_at-plain j i (stops met fault) fs n rest e = absurd cc
fields_at-plain j i (asks met d spec more) [] n rest e = absurd cc
fields_at-plain j i (asks met d spec more) (f ∷ fs) n rest e =
    let g = guard_ok (matches_spec d spec f) _ _ n e in
    let is = asked_is d spec f g.0 in
    let form = form_passes spec f.raw is.2 in
    let same_f : ◌≡◌ {A = Field} (record { fxy = d; spec = spec; raw = f.raw }) f =
    λ k. record { fxy = sym is.0 k; spec = sym is.1 k; raw = f.raw } in
    let width : f.spec.width ≡ spec.width = ap (λ (s : Spec). s.width) is.1 in
    let regrouped : plain (f ∷ fs) ++ rest ≡ raw_bits spec.width f.raw ++ (plain fs ++ rest) =
    append_assoc (field_bits f) (plain fs) rest
    ∙ ap (λ w. raw_bits w f.raw ++ (plain fs ++ rest)) width in
    let after = fields_at-plain j (i + 1) (more (number_of f.raw)) fs n rest g.1 in
    ap (fields_at j i (asks met d spec more)) regrouped
    ∙ rw (raw_again spec.kind spec.width f.raw (plain fs ++ rest) form, after)
    (ap (λ (h : Field). Ok (record { fields = h ∷ fs; items = n; rest = rest })) same_f)

-- the bits begin with a raw value that fits
abbrev pub IsRaw : Kind → ℕ → List Bool → Raw × List Bool → Type 0
IsRaw kind width front x = (has_form_by kind width x.0 ≡ true) × (front ≡ raw_bits width x.0 ++ x.1)

number_read : (width : ℕ) (front : List Bool) (short : Bool) (o : Option (ℕ × List Bool))
    (x : Raw × List Bool) → nat_le width 64 ≡ short → number_at width front ≡ o
    → option_map {U = Raw × List Bool} (λ y. (Number y.0, y.1)) (cond short o None) ≡ Some x
    → ((nat_le width 64 && nat_lt (number_of x.0) (2 ^ width)) ≡ true)
    × (x.0 ≡ Number (number_of x.0)) × (front ≡ raw_bits width x.0 ++ x.1)
number_read width front false o x s found e = absurd cc
number_read width front true None x s found e = absurd cc
number_read width front true (Some y) x s found e =
    let same : (Number y.0, y.1) ≡ x = some_is _ _ e in
    let is = number_at_is width y.0 front y.1 found in
    let fits : (nat_le width 64 && nat_lt y.0 (2 ^ width)) ≡ true =
    rw (s, lt-ltb y.0 (2 ^ width) is.1) refl in
    subst (λ (p : Raw × List Bool). ((nat_le width 64 && nat_lt (number_of p.0) (2 ^ width)) ≡ true)
    × (p.0 ≡ Number (number_of p.0)) × (front ≡ raw_bits width p.0 ++ p.1)) same
    (fits, refl, is.0)

text_read : (width : ℕ) (front : List Bool) (o : Option (List ℕ × List Bool)) (x : Raw × List Bool)
    → numbers_at (width / 8) 8 front ≡ o
    → option_map {U = Raw × List Bool} (λ y. (Text y.0, y.1)) o ≡ Some x
    → IsRaw kinds.Text width front x
text_read width front None x found e = absurd cc
text_read width front (Some y) x found e =
    let same : (Text y.0, y.1) ≡ x = some_is _ _ e in
    let is = numbers_at_found (width / 8) 8 front y found in
    let form : has_form_by kinds.Text width (Text y.0) ≡ true =
    rw (eq-eqb (length y.0) (width / 8) is.0, octets_pass y.0 is.1) refl in
    subst (λ (p : Raw × List Bool). IsRaw kinds.Text width front p) same (form, is.2)

number_form : (kind : Kind) (width : ℕ) (raw : Raw) → same_kind kind kinds.Text ≡ false
    → (nat_le width 64 && nat_lt (number_of raw) (2 ^ width)) ≡ true → raw ≡ Number (number_of raw)
    → has_form_by kind width raw ≡ true
number_form kinds.Text width raw other below is = absurd cc
number_form kinds.Code width raw other below is = rw is below
number_form kinds.Flag width raw other below is = rw is below
number_form kinds.Quantity width raw other below is = rw is below
number_form kinds.Count width raw other below is = rw is below

pub raw_read : (kind : Kind) (width : ℕ) (front : List Bool) (x : Raw × List Bool)
    → raw_at_by kind width front ≡ Some x → IsRaw kind width front x
raw_read kinds.Text width front x e = text_read width front _ x refl e
raw_read kinds.Code width front x e =
    let is =
    number_read width front _ _ x refl refl e in
    (number_form kinds.Code width x.0 refl is.0 is.1, is.2)
raw_read kinds.Flag width front x e =
    let is =
    number_read width front _ _ x refl refl e in
    (number_form kinds.Flag width x.0 refl is.0 is.1, is.2)
raw_read kinds.Quantity width front x e =
    let is =
    number_read width front _ _ x refl refl e in
    (number_form kinds.Quantity width x.0 refl is.0 is.1, is.2)
raw_read kinds.Count width front x e =
    let is =
    number_read width front _ _ x refl refl e in
    (number_form kinds.Count width x.0 refl is.0 is.1, is.2)

-- the bits begin with fields that the course allows
abbrev IsFound : ℕ → ℕ → Course → List Bool → SubsetRead → Type 0
IsFound j i c front f = (items_of j i c f.fields ≡ Ok f.items) × (front ≡ plain f.fields ++ f.rest)

-- what is read later begins the bits left
abbrev FoundAfter : ℕ → ℕ → (ℕ → Course) → Type 0
FoundAfter j i more =
    (n : ℕ) (front : List Bool) (f : SubsetRead) → fields_at j i (more n) front ≡ Ok f
    → IsFound j i (more n) front f

field_joined : (j i met d : ℕ) (spec : Spec) (more : ℕ → Course) (front : List Bool)
    (x : Raw × List Bool) (o : Result SubsetRead DataFault) (f : SubsetRead)
    → IsRaw spec.kind spec.width front x
    → ((g : SubsetRead) → o ≡ Ok g → IsFound j (i + 1) (more (number_of x.0)) x.1 g)
    → (o >>= λ found. Ok (record found
    { fields = record { fxy = d; spec = spec; raw = x.0 } ∷ found.fields }))
    ≡ Ok f → IsFound j i (asks met d spec more) front f
unfolding items_of
field_joined j i met d spec more front x (Err fault) f raw after e = absurd cc
field_joined j i met d spec more front x (Ok g) f raw after e =
    let field : Field = record { fxy = d; spec = spec; raw = x.0 } in
    let same : ◌≡◌ {A = SubsetRead} (record g { fields = field ∷ g.fields }) f = ok_is _ _ e in
    let others = after g refl in
    let fits : items_of j i (asks met d spec more) (field ∷ g.fields) ≡ Ok g.items =
    rw (asked_passes d spec field (refl, refl, form_is spec x.0 raw.0)) others.0 in
    let spelt : front ≡ plain (field ∷ g.fields) ++ g.rest =
    raw.1 ∙ ap (λ xs. raw_bits spec.width x.0 ++ xs) others.1
    ∙ sym (append_assoc (raw_bits spec.width x.0) (plain g.fields) g.rest) in
    subst (λ (h : SubsetRead). IsFound j i (asks met d spec more) front h) same (fits, spelt)

field_found : (j i met d : ℕ) (spec : Spec) (more : ℕ → Course) (front : List Bool)
    (o : Option (Raw × List Bool)) (f : SubsetRead) → raw_at spec front ≡ o
    → FoundAfter j (i + 1) more
    → field_then j i d spec (λ n rest. fields_at j (i + 1) (more n) rest) o ≡ Ok f
    → IsFound j i (asks met d spec more) front f
field_found j i met d spec more front None f found after e = absurd cc
field_found j i met d spec more front (Some x) f found after e =
    field_joined j i met d spec more front x (fields_at j (i + 1) (more (number_of x.0)) x.1) f
    (raw_read spec.kind spec.width front x found) (after (number_of x.0) x.1) e

pub not_stopped : {A : Type 0} (fault : WalkFault) (f : A) → stopped fault ≡ Ok f → ⊥
not_stopped walks.TooLarge f e = cc
not_stopped (walks.EffectiveRange d) f e = cc

pub fields_at-found : (j i : ℕ) (c : Course) (front : List Bool) (f : SubsetRead)
    → fields_at j i c front ≡ Ok f
    → (items_of j i c f.fields ≡ Ok f.items) × (front ≡ plain f.fields ++ f.rest)
unfolding items_of fields_at
fields_at-found j i (ends n) front f e =
    subst (λ (h : SubsetRead). IsFound j i (ends n) front h) (ok_is
    (record { fields = []; items = n; rest = front }) f e) (refl, refl)
fields_at-found j i (stops met fault) front f e = absurd (not_stopped fault f e)
fields_at-found j i (asks met d spec more) front f e =
    field_found j i met d spec more front _ f refl
    (λ n rest g h. fields_at-found j (i + 1) (more n) rest g h) e

-- the bits begin with subsets that their courses allow
abbrev AreFound : (ℕ → Course) → ℕ → ℕ → ℕ → List Bool → SubsetsRead → Type 0
AreFound course j n used front f =
    (length f.subsets ≡ n) × (items_of_all course j used f.subsets ≡ Ok f.items)
    × (front ≡ plain_subsets f.subsets ++ f.rest)

pub subsets_at-found : (course : ℕ → Course) (j n used : ℕ) (front : List Bool) (f : SubsetsRead)
    → subsets_at course j n used front ≡ Ok f
    → (length f.subsets ≡ n) × (items_of_all course j used f.subsets ≡ Ok f.items)
    × (front ≡ plain_subsets f.subsets ++ f.rest)
unfolding subsets_at items_of_all
subsets_at-found course j zero used front f e =
    subst (λ (h : SubsetsRead). AreFound course j 0 used front h)
    (ok_is (record { subsets = []; items = used; rest = front }) f e) (refl, refl, refl)
subsets_at-found course j (suc n) used front f e =
    let a = bind_ok (fields_at j 1 (course used) front) _ f e in
    let first = a.0 in
    let b = bind_ok (subsets_at course (j + 1) n first.items first.rest) _ f a.2 in
    let others = b.0 in
    let s : Subset = record { fields = first.fields } in
    let same : ◌≡◌ {A = SubsetsRead} (record others { subsets = s ∷ others.subsets }) f =
    ok_is _ _ b.2 in
    let front_is = fields_at-found j 1 (course used) front first a.1 in
    let rest_is = subsets_at-found course (j + 1) n first.items first.rest others b.1 in
    let many : length (s ∷ others.subsets) ≡ suc n = ap suc rest_is.0 in
    let fits : items_of_all course j used (s ∷ others.subsets) ≡ Ok others.items =
    rw front_is.0 rest_is.1 in
    let spelt : front ≡ plain_subsets (s ∷ others.subsets) ++ others.rest =
    front_is.1 ∙ ap (λ xs. plain first.fields ++ xs) rest_is.2
    ∙ sym (append_assoc (plain first.fields) (plain_subsets others.subsets) others.rest) in
    subst (λ (h : SubsetsRead). AreFound course j (suc n) used front h) same (many, fits, spelt)

subsets_again : (course : ℕ → Course) (j used : ℕ) (subsets : List Subset) (n : ℕ)
    (rest : List Bool) → items_of_all course j used subsets ≡ Ok n
    → subsets_at course j (length subsets) used (plain_subsets subsets ++ rest)
    ≡ Ok (record { subsets = subsets; items = n; rest = rest })
unfolding subsets_at items_of_all
subsets_again course j used [] n rest e =
    ap (λ k. Ok (record { subsets = []; items = k; rest = rest })) (ok_is used n e)
subsets_again course j used (s ∷ subsets) n rest e =
    let a = bind_ok (items_of j 1 (course used) s.fields) _ n e in
    let regrouped : plain_subsets (s ∷ subsets) ++ rest ≡ plain s.fields
    ++ (plain_subsets subsets ++ rest) =
    append_assoc (plain s.fields) (plain_subsets subsets) rest in
    rw (
      regrouped,
      fields_at-plain j 1 (course used) s.fields a.0 (plain_subsets subsets ++ rest) a.1,
      subsets_again course (j + 1) a.0 subsets n rest a.2,
    ) refl

pub subsets_at-plain : (course : ℕ → Course) (j n used : ℕ) (front : List Bool) (f : SubsetsRead)
    → length f.subsets ≡ n → items_of_all course j used f.subsets ≡ Ok f.items
    → front ≡ plain_subsets f.subsets ++ f.rest → subsets_at course j n used front ≡ Ok f
subsets_at-plain course j n used front f many fits spelt =
    rw (← many, spelt) (subsets_again course j used f.subsets f.items f.rest fits)
