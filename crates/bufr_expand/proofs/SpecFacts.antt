-- The spec of an element is the only one that meets the equations of Table C and the limits.
use Rattle.std.proofs.Common.{◌≡◌, ◌⊎◌, ℕ, ◌+◌, ◌*◌, ◌/◌, ◌%◌, ◌^◌, ◌≤◌, ℤ, pos, negsuc, ◌+ℤ◌, ◌*ℤ◌}
use Rattle.std.proofs.Common.{Bool, true, false, Option, Some, None, ◌&&◌, ◌==◌, nat_le}
use Rattle.std.proofs.Common.{if◌then◌else◌, MatchResult, ok_or}
use Rattle.std.proofs.Common.{refl, sym, ap, ◌∙◌, subst, inl, inr}
use Rattle.std.specs.Prelude.{◌↔◌}
use Rattle.std.specs.Bool.{Decides}
use Rattle.std.specs.Int.RustNames.{unsigned_abs}
use Rattle.std.proofs.lemmas.Bool.{leb-true, le-leb, eq-eqb, ne_eqb, cases_eq, cond-true}
use Rattle.std.proofs.lemmas.Bool.{cond-false}
use Rattle.std.proofs.lemmas.Bool.Decides.{Decides-and, Decides-eqb}
use Rattle.std.proofs.lemmas.Option.{cond_some}
use Rattle.std.proofs.Math.IntN.{+ℤ_idr, *ℤ-one}
use Rattle.bufr_tables.specs.declared.element.Element.{Element}
use Rattle.bufr_tables.specs.declared.element.Kind.{Kind}
use Rattle.bufr_tables.specs.declared.element.Kind.TheVariants as kinds
use Rattle.bufr_tables.specs.Descriptors.{x_of}
use Rattle.bufr_expand.specs.declared.operators.Operators.{Operators}
use Rattle.bufr_expand.specs.declared.operators.Spec.{Spec}
use Rattle.bufr_expand.specs.Limits.{most_number_bits, most_text_bits, most_scale, most_reference}
use Rattle.bufr_expand.specs.OperatorsInForce.{added, increase_of, widening, text_width, is_within}
use Rattle.bufr_expand.specs.OperatorsInForce.{number_spec, text_spec, untouched_by, untouched}
use Rattle.bufr_expand.specs.OperatorsInForce.{effective_by, effective, none_in_force}
use Rattle.bufr_expand.specs.Effects.{IsTextSpec, IsNumber, IsAsRow, AsInTable, text, number, Adds}
use Rattle.bufr_expand.specs.Effects.{Increases, IsChanged, HasTextBits, Effective, of_text}
use Rattle.bufr_expand.specs.Effects.{changed, unchanged}
use Rattle.bufr_expand.proofs.Powers.{decides_within}

if_then : {A : Type 0} (b : Bool) (x : Option A) (y : A) → (if b then x else None) ≡ Some y
    → (b ≡ true) × (x ≡ Some y)
if_then true x y h = (refl, h)
if_then false x y h = cc

decides_number : (width : ℕ) (reference : ℤ)
    → Decides (nat_le 1 width && nat_le width most_number_bits
    && is_within most_reference reference)
    (((1 ≤ width) × (width ≤ most_number_bits)) × (unsigned_abs reference ≤ most_reference))
decides_number width reference =
    Decides-and _ _ (Decides-and _ _ (leb-true 1 width, le-leb 1 width)
    (leb-true width most_number_bits, le-leb width most_number_bits))
    (decides_within most_reference reference)

decides_octets : (width : ℕ)
    → Decides (nat_le 8 width && nat_le width most_text_bits && (width % 8 == 0))
    (((8 ≤ width) × (width ≤ most_text_bits)) × (width % 8 ≡ 0))
decides_octets width =
    Decides-and _ _ (Decides-and _ _ (leb-true 8 width, le-leb 8 width)
    (leb-true width most_text_bits, le-leb width most_text_bits)) (Decides-eqb (width % 8) 0)

-- the spec of a number, by its parts and its row
record IsNumberOf (row : Element) (kind : Kind) (scale reference width : ℤ)
    (spec : Spec) : Type 0 where
  kind_is : spec.kind ≡ kind
  scale_is : spec.scale ≡ scale
  reference_is : spec.reference ≡ reference
  width_is : pos spec.width ≡ width
  within : IsNumber row spec

number_parts : (row : Element) (kind : Kind) (scale reference width : ℤ) (spec : Spec)
    → unsigned_abs row.scale ≤ most_scale → number_spec kind scale reference width ≡ Some spec
    → IsNumberOf row kind scale reference width spec
number_parts row kind scale reference (negsuc w) spec t h = cc
number_parts row kind scale reference (pos w) spec t h =
    let p = cond_some (nat_le 1 w && nat_le w most_number_bits
    && is_within most_reference reference)
    (record { kind = kind; scale = scale; reference = reference; width = w }) spec h in
    let q = (decides_number w reference).0 p.0 in
    record {
      kind_is = sym (ap (λ (s : Spec). s.kind) p.1);
      scale_is = sym (ap (λ (s : Spec). s.scale) p.1);
      reference_is = sym (ap (λ (s : Spec). s.reference) p.1);
      width_is = sym (ap (λ (s : Spec). pos s.width) p.1);
      within = subst (IsNumber row) p.1 (record {
        scale_in_table = t;
        some_bit = q.0.0;
        few_bits = q.0.1;
        reference_within = q.1;
      });
    }

-- the spec of a number, if the scale of its row is within the limit
abbrev number_by : Element → Kind → ℤ → ℤ → ℤ → Option Spec
number_by row kind scale reference width =
    if is_within most_scale row.scale then number_spec kind scale reference width else None

number_found : (row : Element) (kind : Kind) (scale reference width : ℤ) (spec : Spec)
    → number_by row kind scale reference width ≡ Some spec
    → IsNumberOf row kind scale reference width spec
number_found row kind scale reference width spec h =
    let p = if_then (is_within most_scale row.scale) (number_spec kind scale reference width) spec h
    in
    number_parts row kind scale reference width spec ((decides_within most_scale row.scale).0 p.0)
    p.1

number_only : (row : Element) (kind : Kind) (scale reference width : ℤ) (spec : Spec)
    → IsNumberOf row kind scale reference width spec
    → number_by row kind scale reference width ≡ Some spec
number_only row kind scale reference width spec h =
    let own : number_by row spec.kind spec.scale spec.reference (pos spec.width) ≡ Some spec =
    cond-true (is_within most_scale row.scale) _ _
    ((decides_within most_scale row.scale).1 h.within.scale_in_table)
    ∙ cond-true (nat_le 1 spec.width && nat_le spec.width most_number_bits
    && is_within most_reference spec.reference) (Some spec) None
    ((decides_number spec.width spec.reference).1
    ((h.within.some_bit, h.within.few_bits), h.within.reference_within)) in
    rw (sym h.kind_is, sym h.scale_is, sym h.reference_is, sym h.width_is) own

text_found : (width : ℕ) (spec : Spec) → text_spec width ≡ Some spec
    → (spec.width ≡ width) × IsTextSpec spec
text_found w spec h =
    let p = cond_some (nat_le 8 w && nat_le w most_text_bits && (w % 8 == 0))
    (record { kind = kinds.Text; scale = pos 0; reference = pos 0; width = w }) spec h in
    let q = (decides_octets w).0 p.0 in (
      sym (ap (λ (s : Spec). s.width) p.1),
      subst IsTextSpec p.1 (record {
        is_text = refl;
        no_scale = refl;
        no_reference = refl;
        some_octet = q.0.0;
        few_octets = q.0.1;
        whole_octets = q.1;
      }),
    )

text_only : (width : ℕ) (spec : Spec) → spec.width ≡ width → IsTextSpec spec
    → text_spec width ≡ Some spec
text_only width spec same h =
    let w = spec.width in
    let r : Spec = record { kind = kinds.Text; scale = pos 0; reference = pos 0; width = w } in
    let e : r ≡ spec = λ i. record {
      kind = sym h.is_text i;
      scale = sym h.no_scale i;
      reference = sym h.no_reference i;
      width = w;
    } in
    let own : text_spec w ≡ Some spec =
    cond-true (nat_le 8 w && nat_le w most_text_bits && (w % 8 == 0)) (Some r) None
    ((decides_octets w).1 ((h.some_octet, h.few_octets), h.whole_octets)) ∙ ap Some e in
    subst (λ (n : ℕ). text_spec n ≡ Some spec) same own

as_row : (e : Element) (spec : Spec)
    → IsNumberOf e e.kind e.scale e.reference (pos e.width) spec → IsAsRow e spec
as_row e spec h = let same : pos spec.width ≡ pos e.width = h.width_is in record {
  kind_is = h.kind_is;
  scale_is = h.scale_is;
  reference_is = h.reference_is;
  width_is = cc;
  within = h.within;
}

of_row : (e : Element) (spec : Spec) → IsAsRow e spec
    → IsNumberOf e e.kind e.scale e.reference (pos e.width) spec
of_row e spec h = record {
  kind_is = h.kind_is;
  scale_is = h.scale_is;
  reference_is = h.reference_is;
  width_is = ap pos h.width_is;
  within = h.within;
}

text_or_number : (k : Kind) → (k ≡ kinds.Text) ⊎ (k ≡ kinds.Text → ⊥)
text_or_number kinds.Text = inl refl
text_or_number _ = inr (λ e. cc)

number_kind : (k : Kind) (e : Element) → (k ≡ kinds.Text → ⊥)
    → untouched_by k e ≡ number_by e k e.scale e.reference (pos e.width)
number_kind kinds.Text e not = absurd (not refl)
number_kind _ e not = refl

pub in_table : (e : Element) (spec : Spec) → untouched e ≡ Some spec → AsInTable e spec
in_table e spec h =
    elim (text_or_number e.kind) [
      | inl k ↦
          let p = text_found e.width spec (ap (λ v. untouched_by v e) (sym k) ∙ h) in
          text k p.0 p.1
      | inr not ↦ number not (as_row e spec (number_found e e.kind e.scale e.reference (pos e.width)
          spec (sym (number_kind e.kind e not) ∙ h)))
    ]

pub in_table_only : (e : Element) (spec : Spec) → AsInTable e spec → untouched e ≡ Some spec
in_table_only e spec (text k same h) =
    ap (λ v. untouched_by v e) k ∙ text_only e.width spec same h
in_table_only e spec (number not h) =
    number_kind e.kind e not
    ∙ number_only e e.kind e.scale e.reference (pos e.width) spec (of_row e spec h)

adds_is : (o : Option ℕ) (more : ℤ) → Adds o more ↔ (more ≡ added o)
adds_is None more = (λ h. h, λ h. h)
adds_is (Some y) more = (λ h. h, λ h. h)

increases_is : (o : Option ℕ) (increase : ℕ) → Increases o increase ↔ (increase ≡ increase_of o)
increases_is None increase = (λ h. h, λ h. h)
increases_is (Some y) increase = (λ h. h, λ h. h)

widening_is : (o : Option ℕ) → widening o ≡ (10 * increase_of o + 2) / 3
widening_is None = refl
widening_is (Some y) = refl

text_bits_are : (o : Option ℕ) (e : Element) (bits : ℕ)
    → HasTextBits o e bits ↔ (bits ≡ text_width e.width o)
text_bits_are None e bits = (λ h. h, λ h. h)
text_bits_are (Some y) e bits = (λ h. h, λ h. h)

-- the scale of a quantity under operators
abbrev scale_under : ℤ → Operators → ℤ
scale_under s q = s +ℤ added q.add_scale +ℤ pos (increase_of q.increase)

-- the reference value of a quantity under operators
abbrev reference_under : ℤ → Operators → ℤ
reference_under r q = r *ℤ pos (10 ^ increase_of q.increase)

-- the width of a quantity under operators
abbrev width_under : ℕ → Operators → ℤ
width_under w q = pos w +ℤ added q.add_width +ℤ pos (widening q.increase)

-- a quantity has these parts
abbrev IsQuantityOf : Element → Operators → Spec → Type 0
IsQuantityOf e q spec =
    IsNumberOf e kinds.Quantity (scale_under e.scale q) (reference_under e.reference q)
    (width_under e.width q) spec

is_changed : (e : Element) (q : Operators) (spec : Spec) → IsQuantityOf e q spec
    → IsChanged e q spec
is_changed e q spec h = record {
  wider = added q.add_width;
  finer = added q.add_scale;
  increase = increase_of q.increase;
  change_data_width = (adds_is q.add_width (added q.add_width)).1 refl;
  change_scale = (adds_is q.add_scale (added q.add_scale)).1 refl;
  increases = (increases_is q.increase (increase_of q.increase)).1 refl;
  kind_is = h.kind_is;
  scale_is = h.scale_is;
  reference_is = h.reference_is;
  width_is = h.width_is ∙ ap (λ (n : ℕ). pos e.width +ℤ added q.add_width +ℤ pos n)
      (widening_is q.increase);
  within = h.within;
}

changed_is : (e : Element) (q : Operators) (spec : Spec) → IsChanged e q spec
    → IsQuantityOf e q spec
changed_is e q spec h =
    let more = (adds_is q.add_scale h.finer).0 h.change_scale in
    let bits = (adds_is q.add_width h.wider).0 h.change_data_width in
    let by = (increases_is q.increase h.increase).0 h.increases in
    record {
      kind_is = h.kind_is;
      scale_is = h.scale_is ∙ ap (λ (z : ℤ). e.scale +ℤ z +ℤ pos h.increase) more
          ∙ ap (λ (n : ℕ). e.scale +ℤ added q.add_scale +ℤ pos n) by;
      reference_is = h.reference_is ∙ ap (λ (n : ℕ). e.reference *ℤ pos (10 ^ n)) by;
      width_is = h.width_is
          ∙ ap (λ (z : ℤ). pos e.width +ℤ z +ℤ pos ((10 * h.increase + 2) / 3)) bits
          ∙ ap (λ (n : ℕ). pos e.width +ℤ added q.add_width +ℤ pos ((10 * n + 2) / 3)) by
          ∙ ap (λ (n : ℕ). pos e.width +ℤ added q.add_width +ℤ pos n)
          (sym (widening_is q.increase));
      within = h.within;
    }

kind_cases : (k : Kind) (d : ℕ) → (k ≡ kinds.Text)
    ⊎ ((k ≡ kinds.Quantity) × (x_of d ≡ 31 → ⊥))
    ⊎ ((k ≡ kinds.Text → ⊥) × (k ≡ kinds.Quantity → x_of d ≡ 31))
kind_cases kinds.Text d = inl refl
kind_cases kinds.Quantity d =
    elim (cases_eq (x_of d) 31)
    [ inl e ↦ inr (inr (λ k. cc, λ k. e)) | inr n ↦ inr (inl (refl, n)) ]
kind_cases _ d = inr (inr (λ k. cc, λ k. cc))

quantity_kind : (k : Kind) (d : ℕ) (e : Element) (q : Operators) → k ≡ kinds.Quantity
    → (x_of d ≡ 31 → ⊥)
    → effective_by k d e q ≡ number_by e kinds.Quantity (scale_under e.scale q)
    (reference_under e.reference q) (width_under e.width q)
quantity_kind k d e q is not = ap (λ v. effective_by v d e q) is
    ∙ cond-false (x_of d == 31) _ _ (ne_eqb (x_of d) 31 not)

plain_kind : (k : Kind) (d : ℕ) (e : Element) (q : Operators) → (k ≡ kinds.Text → ⊥)
    → (k ≡ kinds.Quantity → x_of d ≡ 31) → effective_by k d e q ≡ untouched e
plain_kind kinds.Text d e q not class = absurd (not refl)
plain_kind kinds.Quantity d e q not class =
    cond-true (x_of d == 31) _ _ (eq-eqb (x_of d) 31 (class refl))
plain_kind _ d e q not class = refl

pub effective_found : (d : ℕ) (e : Element) (q : Operators) (spec : Spec)
    → effective d e q ≡ Some spec → Effective d e q spec
effective_found d e q spec h =
    elim (kind_cases e.kind d) [
      | inl k ↦
          let p = text_found (text_width e.width q.characters) spec
          (ap (λ v. effective_by v d e q) (sym k) ∙ h) in
          of_text k ((text_bits_are q.characters e spec.width).1 p.0) p.1
      | inr (inl k) ↦ changed k.0 k.1 (is_changed e q spec (number_found e kinds.Quantity
          (scale_under e.scale q) (reference_under e.reference q) (width_under e.width q) spec
          (sym (quantity_kind e.kind d e q k.0 k.1) ∙ h)))
      | inr (inr k) ↦
          let same = sym (plain_kind e.kind d e q k.0 k.1) ∙ h in
          unchanged k.0 k.1 (as_row e spec (number_found e e.kind e.scale e.reference
          (pos e.width) spec (sym (number_kind e.kind e k.0) ∙ same)))
    ]

pub effective_only : (d : ℕ) (e : Element) (q : Operators) (spec : Spec) → Effective d e q spec
    → effective d e q ≡ Some spec
effective_only d e q spec (of_text k bits h) =
    ap (λ v. effective_by v d e q) k
    ∙ text_only (text_width e.width q.characters) spec
    ((text_bits_are q.characters e spec.width).0 bits) h
effective_only d e q spec (changed k not h) =
    quantity_kind e.kind d e q k not
    ∙ number_only e kinds.Quantity (scale_under e.scale q) (reference_under e.reference q)
    (width_under e.width q) spec (changed_is e q spec h)
effective_only d e q spec (unchanged not class h) =
    plain_kind e.kind d e q not class ∙ in_table_only e spec (number not h)

pub effective_one : (d : ℕ) (e : Element) (q : Operators) (a b : Spec) → Effective d e q a
    → Effective d e q b
    → a ≡ b
effective_one d e q a b h g = let m = sym (effective_only d e q a h) ∙ effective_only d e q b g in
    cc

-- no operator changes the parts of a number
none_changes : (e : Element)
    → number_by e kinds.Quantity (scale_under e.scale none_in_force)
    (reference_under e.reference none_in_force) (width_under e.width none_in_force)
    ≡ number_by e kinds.Quantity e.scale e.reference (pos e.width)
unfolding lib.IntN.one
none_changes e =
    let scale : e.scale +ℤ pos 0 +ℤ pos 0 ≡ e.scale = +ℤ_idr (e.scale +ℤ pos 0) ∙ +ℤ_idr e.scale in
    let width : pos e.width +ℤ pos 0 +ℤ pos 0 ≡ pos e.width =
    +ℤ_idr (pos e.width +ℤ pos 0) ∙ +ℤ_idr (pos e.width) in
    λ i. number_by e kinds.Quantity (scale i) (*ℤ-one e.reference i) (width i)

-- under no operator an element has the spec of its row
pub effective_none : (d : ℕ) (e : Element) → effective d e none_in_force ≡ untouched e
effective_none d e =
    elim (kind_cases e.kind d) [
      | inl k ↦
          ap (λ v. effective_by v d e none_in_force) k ∙ sym (ap (λ v. untouched_by v e) k)
      | inr (inl k) ↦ quantity_kind e.kind d e none_in_force k.0 k.1 ∙ none_changes e
          ∙ sym (ap (λ v. untouched_by v e) k.0)
      | inr (inr k) ↦ plain_kind e.kind d e none_in_force k.0 k.1
    ]

given_spec : {E : Type 0} (o found : Option Spec) (error : E) → o ≡ found
    → MatchResult (ok_or o error) (λ s. found ≡ Some s) (λ f. (f ≡ error) × (found ≡ None))
given_spec None found error h = (refl, sym h)
given_spec (Some s) found error h = sym h

-- the spec of an element if no operator is in force
pub given_untouched : {E : Type 0} (d : ℕ) (e : Element) (q : Operators) (o : Option Spec)
    (error : E) → q ≡ none_in_force → o ≡ untouched e
    → MatchResult (ok_or o error) (λ s. effective d e q ≡ Some s)
    (λ f. (f ≡ error) × (effective d e q ≡ None))
given_untouched d e q o error idle given =
    let spec : o ≡ effective d e q =
    given ∙ sym (effective_none d e) ∙ ap (effective d e) (sym idle) in
    given_spec o (effective d e q) error spec
