-- The number read from a word is the only one that prints it: for `number_of` in `raw_values`.
use Rattle.std.proofs.Common.{◌≡◌, ℕ, suc, ◌+◌, ◌-◌, ◌^◌, ◌<◌, ◌≤◌, Bool, true, false, List, codes}
use Rattle.std.proofs.Common.{refl, sym, ap, ◌∙◌, subst, arith, inl, inr}
use Rattle.std.specs.Prelude.{ℤ, pos, negsuc, ◌+ℤ◌, ◌-ℤ◌, ◌==◌, ◌&&◌, not, Option, Some, None}
use Rattle.std.specs.Prelude.{IfSome, FitsSigned, nat_lt, nat_le, if◌then◌else◌}
use Rattle.std.specs.Int.{w128}
use Rattle.std.specs.Int.RustNames.{unsigned_abs}
use Rattle.std.proofs.lemmas.Bool.{and_parts, and_from, cases_Bool, lt-ltb, ltb-true, leb-true}
use Rattle.std.proofs.lemmas.Bool.{le-leb, eqb-true, eq-eqb}
use Rattle.std.proofs.lemmas.Option.{none-some, same_Some}
use Rattle.std.proofs.lemmas.Bool.Decides.{nat_tests}
use Rattle.std.proofs.lemmas.Int.{ints}
use Rattle.std.proofs.Math.Nat.{pow-le-pow_right}
use Rattle.std.proofs.Math.IntN.{+ℤ-neg_ℤ_cancel}
use Rattle.bufr_tables.specs.declared.element.Kind.TheVariants as kinds
use Rattle.bufr_tables.specs.Elements.{same_kind}
use Rattle.bufr_expand.specs.declared.operators.Spec.{Spec}
use Rattle.bufr_expand.specs.OperatorsInForce.{is_within}
use Rattle.bufr_fields.specs.declared.field.Decimal.{Decimal}
use Rattle.bufr_fields.specs.Values.{decimal_within, text_of}
use Rattle.bufr_fields.specs.DecimalTexts.{decimal_of}
use Rattle.bufr_fields.specs.DecimalTextLaws.{IsRead, decimal_found, decimal_only, no_letter}
use Rattle.bufr_listing.specs.Listings.{number_word}
use Rattle.bufr_listing_reader.specs.FieldLines.{is_missing_word}
use Rattle.bufr_listing_reader.specs.RawWords.{may_be_missing, missing_number, unless_missing}
use Rattle.bufr_listing_reader.specs.RawWords.{number_above, number_of}
use Rattle.bufr_listing_reader.proofs.FieldFacts.{bytes_same, same_bytes, other_bytes, IsPrintable}
use Rattle.bufr_listing_reader.proofs.FieldFacts.{size_small, number_small}
use Rattle.bufr_listing_reader.proofs.RawFacts.{number_by}

-- ---- numbers

abbrev pub has_bits : Spec → ℕ → Bool
has_bits spec n = nat_le spec.width 64 && nat_lt n (2 ^ spec.width)

abbrev pub is_missing_number : Spec → ℕ → Bool
is_missing_number spec n =
    has_bits spec n && n + 1 == 2 ^ spec.width && not (spec.width == 1) && not
    (same_kind spec.kind kinds.Count)

abbrev pub print_number : Bool → Spec → ℕ → List ℕ
print_number missing spec n =
    if missing then codes "missing" else number_word (if missing then None else decimal_within
    (pos n +ℤ spec.reference) spec.scale)

-- a number of the form whose field prints the word
pub record NumberIs (spec : Spec) (word : List ℕ) (n : ℕ) : Type 0 where
  pub bits : has_bits spec n ≡ true
  pub printed : print_number (is_missing_number spec n) spec n ≡ word

some_bits : (w : ℕ) → 1 ≤ 2 ^ w
some_bits w = pow-le-pow_right {n = 2} (omega arith) {i = 0} {j = w} (omega arith)

four : (p q a b : Bool) → (q && (a && b)) ≡ false → (p && q && a && b) ≡ false
four false q a b h = refl
four true false a b h = refl
four true true false b h = refl
four true true true b h = h

three : (p q a b : Bool) → p ≡ true → q ≡ true → (a && b) ≡ true → (p && q && a && b) ≡ true
three p q a b hp hq h = rw (hp, hq) h

same_ones : (n w : ℕ) → (n + 1 == 2 ^ w) ≡ (n == 2 ^ w - 1)
same_ones n w =
    let some = some_bits w in
    elim (cases_Bool (n + 1 == 2 ^ w)) [
      | inl e ↦ let is = eqb-true (n + 1) (2 ^ w) e in
          e ∙ sym (eq-eqb n (2 ^ w - 1) (omega (arith, is)))
      | inr e ↦
          elim (cases_Bool (n == 2 ^ w - 1)) [
            | inl f ↦
                let is = eqb-true n (2 ^ w - 1) f in
                let own : (n + 1 == 2 ^ w) ≡ true =
                eq-eqb (n + 1) (2 ^ w) (omega (arith, is, some)) in
                absurd (cc (sym own ∙ e))
            | inr f ↦ e ∙ sym f
          ]
    ]

missing_is : (spec : Spec) (n : ℕ) → spec.width ≤ 64 → missing_number spec ≡ Some n
    → NumberIs spec (codes "missing") n
missing_is spec n small h =
    elim (cases_Bool (may_be_missing spec)) [
      | inl may ↦
          let own : missing_number spec ≡ Some (2 ^ spec.width - 1) = rw may refl in
          let is : 2 ^ spec.width - 1 ≡ n = same_Some (2 ^ spec.width - 1) n (sym own ∙ h) in
          let some = some_bits spec.width in
          let bits : has_bits spec n ≡ true =
          and_from _ _ (le-leb spec.width 64 small)
          (lt-ltb n (2 ^ spec.width) (omega (arith, is, some))) in
          let ones : (n + 1 == 2 ^ spec.width) ≡ true = grind (arith, nat_tests) in
          let missing : is_missing_number spec n ≡ true =
          three (has_bits spec n) (n + 1 == 2 ^ spec.width) (not (spec.width == 1))
          (not (same_kind spec.kind kinds.Count)) bits ones may in
          record { bits = bits; printed = ap (λ b. print_number b spec n) missing }
      | inr not ↦ absurd (let own : missing_number spec ≡ None = rw not refl in cc (sym own ∙ h))
    ]

-- a number that is not missing
record AboveIs (spec : Spec) (z : ℤ) (n : ℕ) : Type 0 where
  is : z ≡ pos n
  most : n ≤ 2 ^ spec.width - 1
  not_missing : (n == 2 ^ spec.width - 1 && may_be_missing spec) ≡ false

unless_is : (spec : Spec) (m n : ℕ) → unless_missing spec m ≡ Some n → AboveIs spec (pos m) n
unless_is spec m n h =
    elim (cases_Bool (nat_lt (2 ^ spec.width - 1) m)) [
      | inl over ↦
          absurd (let own : unless_missing spec m ≡ None = rw over refl in cc (sym own ∙ h))
      | inr under ↦
          elim (cases_Bool (m == 2 ^ spec.width - 1 && may_be_missing spec)) [
            | inl missing ↦
                absurd (let own : unless_missing spec m ≡ None = rw (under, missing) refl in
                cc (sym own ∙ h))
            | inr other ↦
                let own : unless_missing spec m ≡ Some m = rw (under, other) refl in
                let same : m ≡ n = same_Some m n (sym own ∙ h) in
                subst (λ k. AboveIs spec (pos m) k) same
                (record { is = refl; most = grind (arith, nat_tests); not_missing = other })
          ]
    ]

above_is : (spec : Spec) (z : ℤ) (n : ℕ) → number_above spec z ≡ Some n → AboveIs spec z n
above_is spec (negsuc m) n h = absurd cc
above_is spec (pos m) n h = unless_is spec m n h

back_above : (z r : ℤ) (n : ℕ) → z -ℤ r ≡ pos n → pos n +ℤ r ≡ z
back_above z r n h = omega (arith, ints)

value_is : (spec : Spec) (word : List ℕ) (n : ℕ) (d : Decimal) → spec.width ≤ 64
    → IsRead spec.scale word d → number_above spec (d.units -ℤ spec.reference) ≡ Some n
    → NumberIs spec word n
value_is spec word n d small read h =
    let a = above_is spec (d.units -ℤ spec.reference) n h in
    let some = some_bits spec.width in
    let most = a.most in
    let bits : has_bits spec n ≡ true =
    and_from _ _ (le-leb spec.width 64 small)
    (lt-ltb n (2 ^ spec.width) (omega (arith, most, some))) in
    let other :
    (n + 1 == 2 ^ spec.width && (not (spec.width == 1) && not (same_kind spec.kind kinds.Count)))
    ≡ false = ap (λ b. b && may_be_missing spec) (same_ones n spec.width) ∙ a.not_missing in
    let missing : is_missing_number spec n ≡ false =
    four (has_bits spec n) (n + 1 == 2 ^ spec.width) (not (spec.width == 1))
    (not (same_kind spec.kind kinds.Count)) other in
    let units : pos n +ℤ spec.reference ≡ d.units = back_above d.units spec.reference n a.is in
    let within : is_within 600 spec.scale ≡ true =
    subst (λ s. is_within 600 s ≡ true) read.0 read.1.scale in
    let own : decimal_within (pos n +ℤ spec.reference) spec.scale ≡ Some
    (record { units = pos n +ℤ spec.reference; scale = spec.scale }) = rw within refl in
    let same : text_of (record { units = pos n +ℤ spec.reference; scale = spec.scale })
    ≡ text_of d = λ i. text_of (record { units = units i; scale = sym read.0 i }) in
    record {
      bits = bits;
      printed = ap (λ b. print_number b spec n) missing ∙ ap number_word own
          ∙ same ∙ read.2;
    }

found_by : (spec : Spec) (word : List ℕ) (n : ℕ) (o : Option Decimal) → spec.width ≤ 64
    → nat_lt 64 spec.width ≡ false → is_missing_word word ≡ false → decimal_of spec.scale word ≡ o
    → IfSome o (λ d. IsRead spec.scale word d) → number_of spec word ≡ Some n → NumberIs spec word n
found_by spec word n None small few other is read h =
    absurd (none-some n (sym (number_by spec word None few other is) ∙ h))
found_by spec word n (Some d) small few other is read h =
    value_is spec word n d small read (sym (number_by spec word (Some d) few other is) ∙ h)

missing_number_of : (spec : Spec) (word : List ℕ) → nat_lt 64 spec.width ≡ false
    → is_missing_word word ≡ true → number_of spec word ≡ missing_number spec
missing_number_of spec word few is = rw (few, is) refl

-- a number as read prints the word
pub number_is : (spec : Spec) (word : List ℕ) (n : ℕ) → number_of spec word ≡ Some n
    → NumberIs spec word n
number_is spec word n h =
    elim (cases_Bool (nat_lt 64 spec.width)) [
      | inl wide ↦ absurd (let own : number_of spec word ≡ None = rw wide refl in cc (sym own ∙ h))
      | inr few ↦
          let small : spec.width ≤ 64 = grind (arith, nat_tests) in
          elim (cases_Bool (is_missing_word word)) [
            | inl is ↦
                subst (λ w. NumberIs spec w n) (sym (bytes_same word (codes "missing") is))
                (missing_is spec n small (sym (missing_number_of spec word few is) ∙ h))
            | inr other ↦ found_by spec word n (decimal_of spec.scale word) small few other refl
                (decimal_found spec.scale word) h
          ]
    ]

units_fit : (n : ℕ) (r : ℤ) → n < 18446744073709551616 → unsigned_abs r ≤ 9223372036854775808
    → FitsSigned w128 (pos n +ℤ r)
units_fit n (pos m) small within = omega (arith, small, within)
units_fit n (negsuc m) small within = elim (cases_Bool (nat_lt n (suc m))) [
  | inl below ↦ grind (arith, ints)
  | inr above ↦ grind (arith, ints)
]

back_by : (missing : Bool) (spec : Spec) (n : ℕ) (word : List ℕ) → IsPrintable spec
    → has_bits spec n ≡ true → is_missing_number spec n ≡ missing → print_number missing spec n
    ≡ word → number_of spec word ≡ Some n
back_by true spec n word fit bits is e =
    let p = and_parts (nat_le spec.width 64) (nat_lt n (2 ^ spec.width)) bits in
    let small = leb-true spec.width 64 p.0 in
    let few : nat_lt 64 spec.width ≡ false = grind (arith, nat_tests) in
    let a = and_parts (has_bits spec n && n + 1 == 2 ^ spec.width && not (spec.width == 1))
    (not (same_kind spec.kind kinds.Count)) is in
    let b = and_parts (has_bits spec n && n + 1 == 2 ^ spec.width) (not (spec.width == 1)) a.0 in
    let ones =
    eqb-true (n + 1) (2 ^ spec.width)
    (and_parts (has_bits spec n) (n + 1 == 2 ^ spec.width) b.0).1 in
    let may : may_be_missing spec ≡ true = and_from _ _ b.1 a.1 in
    let same : 2 ^ spec.width - 1 ≡ n = omega (arith, ones) in
    let own : missing_number spec ≡ Some (2 ^ spec.width - 1) = rw may refl in
    missing_number_of spec word few (same_bytes word (codes "missing") (sym e)) ∙ own ∙ ap Some same
back_by false spec n word fit bits is e =
    let p = and_parts (nat_le spec.width 64) (nat_lt n (2 ^ spec.width)) bits in
    let small = leb-true spec.width 64 p.0 in
    let under = ltb-true n (2 ^ spec.width) p.1 in
    let few : nat_lt 64 spec.width ≡ false = grind (arith, nat_tests) in
    let wide = number_small spec.width n bits in
    let units = pos n +ℤ spec.reference in
    let own : decimal_within (pos n +ℤ spec.reference) spec.scale ≡ Some
    (record { units = pos n +ℤ spec.reference; scale = spec.scale }) = rw fit.scale refl in
    let text : text_of (record { units = pos n +ℤ spec.reference; scale = spec.scale }) ≡ word =
    sym (ap number_word own) ∙ e in
    let other : is_missing_word word ≡ false =
    other_bytes word (codes "missing") (λ same. no_letter (pos n +ℤ spec.reference) spec.scale _
    (size_small n spec.reference wide fit.reference) (text ∙ same)) in
    let d : decimal_of spec.scale word ≡ Some
    (record { units = pos n +ℤ spec.reference; scale = spec.scale }) =
    decimal_only spec.scale word (record { units = pos n +ℤ spec.reference; scale = spec.scale })
    (record { units = units_fit n spec.reference wide fit.reference; scale = fit.scale }) refl
    text in
    let over : nat_lt (2 ^ spec.width - 1) n ≡ false = grind (arith, nat_tests) in
    let not_ones : (n == 2 ^ spec.width - 1 && may_be_missing spec) ≡ false =
    sym (ap (λ b. b && may_be_missing spec) (same_ones n spec.width)) ∙ left_out (has_bits spec n)
    (n + 1 == 2 ^ spec.width) (not (spec.width == 1)) (not (same_kind spec.kind kinds.Count)) bits
    is in
    let is_own : unless_missing spec n ≡ Some n = rw (over, not_ones) refl in
    number_by spec word (Some (record { units = pos n +ℤ spec.reference; scale = spec.scale })) few
    other d
    ∙ ap (number_above spec) (+ℤ-neg_ℤ_cancel (pos n) spec.reference)
    ∙ is_own
  where
    left_out : (p q a b : Bool) → p ≡ true → (p && q && a && b) ≡ false → (q && (a && b)) ≡ false
    left_out false q a b hp h = absurd cc
    left_out true false a b hp h = refl
    left_out true true false b hp h = refl
    left_out true true true b hp h = h

-- a word reads as the number that prints it
pub number_back : (spec : Spec) (n : ℕ) (word : List ℕ) → IsPrintable spec → NumberIs spec word n
    → number_of spec word ≡ Some n
number_back spec n word fit h =
    back_by (is_missing_number spec n) spec n word fit h.bits refl h.printed
