-- Short numbers are the values of their fields.
use Rattle.std.proofs.Common.{◌≡◌, ℕ, ◌+◌, ◌-◌, ◌^◌, ◌≤◌, ◌==◌, Bool, true, false}
use Rattle.std.proofs.Common.{Some, None, ℤ, pos, negsuc, refl, sym, ap, ◌∙◌, inl, inr, arith}
use Rattle.std.specs.Prelude.{◌&&◌, not, if◌then◌else◌, nat_le, nat_lt, ◌+ℤ◌}
use Rattle.std.proofs.lemmas.Bool.{and_parts, cases_Bool, eq-eqb, eqb-true, le-leb, leb-true, lt-ltb}
use Rattle.std.proofs.lemmas.Nat.{pow_pos}
use Rattle.std.proofs.lemmas.Option.{same_Some}
use Rattle.bufr_tables.specs.declared.element.Kind.{Kind}
use Rattle.bufr_tables.specs.declared.element.Kind.TheVariants as kinds
use Rattle.bufr_tables.specs.Elements.{same_integer, same_kind}
use Rattle.bufr_expand.specs.declared.operators.Spec.{Spec}
use Rattle.bufr_fields.specs.declared.field.Field.{Field}
use Rattle.bufr_fields.specs.declared.field.NumberField.{NumberField}
use Rattle.bufr_fields.specs.declared.field.Raw.TheVariants.{Number}
use Rattle.bufr_fields.specs.Forms.{has_form_by}
use Rattle.bufr_fields.specs.Values.{as_field, decimal_within, is_missing, value, value_by}
use Rattle.bufr_data.specs.Short.{is_short, greatest_by, greatest_short, short_of, short_value}
use Rattle.bufr_data.specs.Short.{HasShort}

-- a spec of short numbers up to g
pub record HasGreatest (spec : Spec) (g : ℕ) : Type 0 where
  pub no_text : spec.kind ≡ kinds.Text → ⊥
  pub no_count : same_kind spec.kind kinds.Count ≡ false
  pub scale : spec.scale ≡ pos 0
  pub reference : spec.reference ≡ pos 0
  pub least : 2 ≤ spec.width
  pub most : spec.width ≤ 16
  pub greatest : 2 ^ spec.width - 1 ≡ g

zero_is : (z : ℤ) → same_integer z (pos 0) ≡ true → z ≡ pos 0
zero_is (pos n) e = ap (λ k. pos k) (eqb-true n 0 e)
zero_is (negsuc n) e = absurd cc

by_test : (b : Bool) (n g : ℕ) → (if b then Some n else None) ≡ Some g → (b ≡ true) × (n ≡ g)
by_test true n g e = (refl, same_Some n g e)
by_test false n g e = absurd cc

of_kind : (spec : Spec) (g : ℕ) → (spec.kind ≡ kinds.Text → ⊥)
    → same_kind spec.kind kinds.Count ≡ false
    → (if is_short spec then Some (2 ^ spec.width - 1) else None) ≡ Some g → HasGreatest spec g
of_kind spec g no_text no_count is =
    let all = by_test (is_short spec) _ g is in
    let a = and_parts _ _ all.0 in
    let b = and_parts _ _ a.0 in
    let c = and_parts _ _ b.0 in
    record {
      no_text = no_text;
      no_count = no_count;
      scale = zero_is spec.scale c.0;
      reference = zero_is spec.reference c.1;
      least = leb-true 2 spec.width b.1;
      most = leb-true spec.width 16 a.1;
      greatest = all.1;
    }

by_kind : (kind : Kind) (spec : Spec) (g : ℕ) → spec.kind ≡ kind → greatest_by kind spec ≡ Some g
    → HasGreatest spec g
by_kind kinds.Text spec g kind is = absurd cc
by_kind kinds.Count spec g kind is = absurd cc
by_kind kinds.Code spec g kind is =
    of_kind spec g (λ text. absurd (let same = sym kind ∙ text in cc)) (rw kind refl) is
by_kind kinds.Flag spec g kind is =
    of_kind spec g (λ text. absurd (let same = sym kind ∙ text in cc)) (rw kind refl) is
by_kind kinds.Quantity spec g kind is =
    of_kind spec g (λ text. absurd (let same = sym kind ∙ text in cc)) (rw kind refl) is

pub has_greatest : (spec : Spec) (g : ℕ) → greatest_short spec ≡ Some g → HasGreatest spec g
has_greatest spec g is = by_kind spec.kind spec g refl is

-- ---- the value

number_value : (kind : Kind) (n : ℕ) (f : Field) → (kind ≡ kinds.Text → ⊥)
    → value_by kind (Number n) f
    ≡ (if is_missing f then None else decimal_within (pos n +ℤ f.spec.reference) f.spec.scale)
number_value kinds.Text n f other = absurd (other refl)
number_value kinds.Code n f other = refl
number_value kinds.Flag n f other = refl
number_value kinds.Quantity n f other = refl
number_value kinds.Count n f other = refl

number_form : (kind : Kind) (width n : ℕ) → (kind ≡ kinds.Text → ⊥)
    → has_form_by kind width (Number n) ≡ (nat_le width 64 && nat_lt n (2 ^ width))
number_form kinds.Text width n other = absurd (other refl)
number_form kinds.Code width n other = refl
number_form kinds.Flag width n other = refl
number_form kinds.Quantity width n other = refl
number_form kinds.Count width n other = refl

none_missing : (a b c d : Bool) → b ≡ false → (a && b && not c && not d) ≡ false
none_missing true b c d none = rw none refl
none_missing false b c d none = refl

greatest_missing : (f : NumberField) (g : ℕ) → HasGreatest f.spec g → f.number ≡ g
    → is_missing (as_field f) ≡ true
greatest_missing f g s same =
    let some = pow_pos f.spec.width in
    let greatest = s.greatest in
    rw (
      number_form f.spec.kind f.spec.width f.number s.no_text,
      le-leb f.spec.width 64 (omega (arith, s.most)),
      lt-ltb f.number (2 ^ f.spec.width) (omega (arith, some, greatest, same)),
      eq-eqb (f.number + 1) (2 ^ f.spec.width) (omega (arith, some, greatest, same)),
      wide f.spec.width s.least,
      s.no_count,
    ) refl
  where
    wide : (width : ℕ) → 2 ≤ width → (width == 1) ≡ false
    wide width least =
        elim (cases_Bool (width == 1)) [
          | inl e ↦ let one = eqb-true width 1 e in absurd (omega (arith, one, least))
          | inr e ↦ e
        ]

other_there : (f : NumberField) (g : ℕ) → HasGreatest f.spec g → (f.number == g) ≡ false
    → is_missing (as_field f) ≡ false
other_there f g s other =
    none_missing (has_form_by f.spec.kind f.spec.width (Number f.number))
    (f.number + 1 == 2 ^ f.spec.width) (f.spec.width == 1) (same_kind f.spec.kind kinds.Count)
    (elim (cases_Bool (f.number + 1 == 2 ^ f.spec.width)) [
      | inl e ↦
          let ones = eqb-true (f.number + 1) (2 ^ f.spec.width) e in
          let greatest = s.greatest in
          let same : f.number ≡ g = omega (arith, ones, greatest) in
          absurd (let both = sym other ∙ eq-eqb f.number g same in cc)
      | inr e ↦ e
    ])

by_number : (same : Bool) (f : NumberField) (g : ℕ) → (f.number == g) ≡ same
    → HasGreatest f.spec g
    → value (as_field f)
    ≡ short_value (record { fxy = f.fxy; number = if same then None else Some f.number })
by_number true f g is s =
    number_value f.spec.kind f.number (as_field f) s.no_text
    ∙ rw (greatest_missing f g s (eqb-true f.number g is)) refl
by_number false f g is s =
    let sum : f.number + 0 ≡ f.number = omega arith in
    number_value f.spec.kind f.number (as_field f) s.no_text
    ∙ rw (other_there f g s is, s.reference, s.scale, sum) refl

-- a field with short numbers has the short number of its raw number
pub has_short : (f : NumberField) (g : ℕ) → greatest_short f.spec ≡ Some g
    → HasShort f (short_of f.fxy f.number g)
has_short f g is = (refl, by_number (f.number == g) f g refl (has_greatest f.spec g is))
