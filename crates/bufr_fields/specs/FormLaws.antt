-- The tests of forms and specs pass exactly if the relations hold: for the laws of data and of
-- listings.
use Rattle.std.proofs.Common.{◌≡◌, ℕ, ◌/◌, ◌^◌, ◌<◌, ◌≤◌, true, List, [], ◌∷◌, length, ℤ, pos}
use Rattle.std.proofs.Common.{negsuc, refl, sym, ap, subst, ◌∙◌}
use Rattle.std.specs.Prelude.{◌==◌, ◌&&◌, nat_lt, nat_le}
use Rattle.std.specs.List.{list_all, AllByRecursion}
use Rattle.std.proofs.lemmas.Bool.{and_parts, le-leb, leb-true, lt-ltb, ltb-true, eq-eqb, eqb-true}
use Rattle.bufr_tables.specs.declared.element.Kind.{Kind}
use Rattle.bufr_tables.specs.declared.element.Kind.TheVariants as kinds
use Rattle.bufr_tables.specs.Elements.{same_kind, same_integer}
use Rattle.bufr_expand.specs.declared.operators.Spec.{Spec}
use Rattle.bufr_fields.specs.declared.field.Raw.{Raw}
use Rattle.bufr_fields.specs.declared.field.Raw.TheVariants.{Number, Text}
use Rattle.bufr_fields.specs.declared.field.Field.{Field}
use Rattle.bufr_fields.specs.Forms.{same_spec, has_form_by, matches_spec}
use Rattle.bufr_fields.specs.Fits.{HasForm, of_text, of_number}
use Rattle.bufr_fields.specs.Asked.{IsAsked}
use Rattle.bufr_fields.specs.Limits.{most_raw_bits}

-- ---- specs that are the same

-- `same_kind` means equality
pub same_kind_is : (a b : Kind) → same_kind a b ≡ true → a ≡ b
same_kind_is kinds.Text kinds.Text e = refl
same_kind_is kinds.Code kinds.Code e = refl
same_kind_is kinds.Flag kinds.Flag e = refl
same_kind_is kinds.Quantity kinds.Quantity e = refl
same_kind_is kinds.Count kinds.Count e = refl
same_kind_is _ _ e = absurd cc

same_integer_is : (a b : ℤ) → same_integer a b ≡ true → a ≡ b
same_integer_is (pos a) (pos b) e = ap (λ n. pos n) (eqb-true a b e)
same_integer_is (negsuc a) (negsuc b) e = ap (λ n. negsuc n) (eqb-true a b e)
same_integer_is (pos a) (negsuc b) e = absurd cc
same_integer_is (negsuc a) (pos b) e = absurd cc

-- `same_spec` means equality
pub same_spec_is : (a b : Spec) → same_spec a b ≡ true → a ≡ b
same_spec_is a b e =
    let p = and_parts _ _ e in
    let q = and_parts _ _ p.0 in
    let r = and_parts _ _ q.0 in
    let kind = same_kind_is a.kind b.kind r.0 in
    let scale = same_integer_is a.scale b.scale r.1 in
    let reference = same_integer_is a.reference b.reference q.1 in
    let width = eqb-true a.width b.width p.1 in
    λ i. record { kind = kind i; scale = scale i; reference = reference i; width = width i }

pub kind_is_same : (k : Kind) → same_kind k k ≡ true
kind_is_same kinds.Text = refl
kind_is_same kinds.Code = refl
kind_is_same kinds.Flag = refl
kind_is_same kinds.Quantity = refl
kind_is_same kinds.Count = refl

integer_is_same : (z : ℤ) → same_integer z z ≡ true
integer_is_same (pos n) = eq-eqb n n refl
integer_is_same (negsuc n) = eq-eqb n n refl

-- each spec passes `same_spec` with itself
pub spec_is_same : (s : Spec) → same_spec s s ≡ true
spec_is_same s = rw (
  kind_is_same s.kind,
  integer_is_same s.scale,
  integer_is_same s.reference,
  eq-eqb s.width s.width refl,
) refl

-- ---- forms

pub octets_pass : (os : List ℕ) → AllByRecursion (λ x. x < 256) os
    → list_all (λ x. nat_lt x 256) os ≡ true
octets_pass [] h = refl
octets_pass (x ∷ os) h = rw (lt-ltb x 256 h.0, octets_pass os h.1) refl

pub below_is : (bound : ℕ) (ns : List ℕ) → list_all (λ n. nat_lt n bound) ns ≡ true
    → AllByRecursion (λ n. n < bound) ns
below_is bound [] e = tt
below_is bound (n ∷ ns) e =
    let p = and_parts (nat_lt n bound) (list_all (λ m. nat_lt m bound) ns) e in
    (ltb-true n bound p.0, below_is bound ns p.1)

pub octets_are : (os : List ℕ) → list_all (λ x. nat_lt x 256) os ≡ true
    → AllByRecursion (λ x. x < 256) os
octets_are os e = below_is 256 os e

text_passes : (kind : Kind) (width : ℕ) (os : List ℕ) → kind ≡ kinds.Text → length os ≡ width / 8
    → AllByRecursion (λ x. x < 256) os → has_form_by kind width (Text os) ≡ true
text_passes kind width os is size all =
    rw (is, eq-eqb (length os) (width / 8) size, octets_pass os all) refl

number_passes : (kind : Kind) (width n : ℕ) → (kind ≡ kinds.Text → ⊥) → width ≤ most_raw_bits
    → n < 2 ^ width
    → has_form_by kind width (Number n) ≡ true
number_passes kinds.Text width n other few below = absurd (other refl)
number_passes kinds.Code width n other few below =
    rw (le-leb width 64 few, lt-ltb n (2 ^ width) below) refl
number_passes kinds.Flag width n other few below =
    rw (le-leb width 64 few, lt-ltb n (2 ^ width) below) refl
number_passes kinds.Quantity width n other few below =
    rw (le-leb width 64 few, lt-ltb n (2 ^ width) below) refl
number_passes kinds.Count width n other few below =
    rw (le-leb width 64 few, lt-ltb n (2 ^ width) below) refl

-- `has_form_by` accepts what `HasForm` allows
pub form_passes : (spec : Spec) (raw : Raw) → HasForm spec raw
    → has_form_by spec.kind spec.width raw ≡ true
form_passes spec raw (of_text os is size all) = text_passes spec.kind spec.width os is size all
form_passes spec raw (of_number n other few below) =
    number_passes spec.kind spec.width n other few below

number_is : (spec : Spec) (n : ℕ) → (spec.kind ≡ kinds.Text → ⊥)
    → (nat_le spec.width 64 && nat_lt n (2 ^ spec.width)) ≡ true → HasForm spec (Number n)
number_is spec n other e = let p =
    and_parts (nat_le spec.width 64) (nat_lt n (2 ^ spec.width)) e in
    of_number n other (leb-true spec.width 64 p.0) (ltb-true n (2 ^ spec.width) p.1)

not_text : (k m : Kind) → k ≡ m → (m ≡ kinds.Text → ⊥) → k ≡ kinds.Text → ⊥
not_text k m e other is = other (sym e ∙ is)

form_by : (kind : Kind) (spec : Spec) (raw : Raw) → spec.kind ≡ kind
    → has_form_by kind spec.width raw ≡ true → HasForm spec raw
form_by kinds.Text spec (Text os) is e =
    let p = and_parts (length os == spec.width / 8) (list_all (λ x. nat_lt x 256) os) e in
    of_text os is (eqb-true (length os) (spec.width / 8) p.0) (octets_are os p.1)
form_by kinds.Text spec (Number n) is e = absurd cc
form_by kinds.Code spec (Number n) is e =
    number_is spec n (not_text spec.kind kinds.Code is (λ x. cc)) e
form_by kinds.Flag spec (Number n) is e =
    number_is spec n (not_text spec.kind kinds.Flag is (λ x. cc)) e
form_by kinds.Quantity spec (Number n) is e =
    number_is spec n (not_text spec.kind kinds.Quantity is (λ x. cc)) e
form_by kinds.Count spec (Number n) is e =
    number_is spec n (not_text spec.kind kinds.Count is (λ x. cc)) e
form_by kinds.Code spec (Text os) is e = absurd cc
form_by kinds.Flag spec (Text os) is e = absurd cc
form_by kinds.Quantity spec (Text os) is e = absurd cc
form_by kinds.Count spec (Text os) is e = absurd cc

-- `HasForm` allows what `has_form_by` accepts
pub form_is : (spec : Spec) (raw : Raw) → has_form_by spec.kind spec.width raw ≡ true
    → HasForm spec raw
form_is spec raw e = form_by spec.kind spec raw refl e

-- ---- the field that is asked for

-- `IsAsked` allows what `matches_spec` accepts
pub asked_is : (d : ℕ) (spec : Spec) (f : Field) → matches_spec d spec f ≡ true → IsAsked d spec f
asked_is d spec f e =
    let p = and_parts (f.fxy == d && same_spec f.spec spec)
    (has_form_by spec.kind spec.width f.raw) e in
    let q = and_parts (f.fxy == d) (same_spec f.spec spec) p.0 in
    (eqb-true f.fxy d q.0, same_spec_is f.spec spec q.1, form_is spec f.raw p.1)

-- `matches_spec` accepts what `IsAsked` allows
pub asked_passes : (d : ℕ) (spec : Spec) (f : Field) → IsAsked d spec f → matches_spec d spec f ≡ true
asked_passes d spec f h =
    let same : same_spec f.spec spec ≡ true =
    subst (λ (s : Spec). same_spec s spec ≡ true) (sym h.1) (spec_is_same spec) in
    let form : has_form_by spec.kind spec.width f.raw ≡ true = form_passes spec f.raw h.2 in
    rw (eq-eqb f.fxy d h.0, same, form) refl
