-- The raw value of a word, step by step: for the functions of `raw_values`.
use Rattle.std.proofs.Common.{◌≡◌, ℕ, suc, ◌-◌, ◌^◌, ◌≤◌, true, false, List, [], ◌∷◌}
use Rattle.std.proofs.Common.{inl, inr, refl, sym, ap, ◌∙◌, arith}
use Rattle.std.specs.Prelude.{Option, Some, None, option_and_then, ℤ, pos, negsuc, ◌-ℤ◌, nat_lt}
use Rattle.std.specs.Prelude.{if◌then◌else◌}
use Rattle.std.proofs.lemmas.Bool.{cases_Bool, lt-ltb}
use Rattle.std.proofs.lemmas.Bool.Decides.{nat_tests}
use Rattle.std.proofs.Math.Nat.{pow-le-pow_right}
use Rattle.bufr_expand.specs.declared.operators.Spec.{Spec}
use Rattle.bufr_fields.specs.declared.field.Decimal.{Decimal}
use Rattle.bufr_fields.specs.DecimalTexts.{decimal_of}
use Rattle.bufr_listing_reader.specs.FieldLines.{is_missing_word}
use Rattle.bufr_listing_reader.specs.Words.{below}
use Rattle.std.specs.Str.{bytes_eq}
use Rattle.bufr_listing_reader.specs.RawWords.{unless_missing, number_above, number_of, first_octet}
use Rattle.bufr_listing_reader.specs.RawWords.{then_octets, octets_before}
use Rattle.bufr_listing_reader.proofs.ParseFacts.{number_is}
use Rattle.bufr_listing_reader.proofs.WordFacts.{behind, behind_end}

pub number_by : (spec : Spec) (word : List ℕ) (o : Option Decimal) → nat_lt 64 spec.width ≡ false
    → is_missing_word word ≡ false → decimal_of spec.scale word ≡ o
    → number_of spec word
    ≡ option_and_then (λ (d : Decimal). number_above spec (d.units -ℤ spec.reference)) o
number_by spec word o small other h = rw (small, other, h) refl

pub above_none : (spec : Spec) (z : ℤ) → spec.width ≤ 64 → below (2 ^ 64) z ≡ None
    → number_above spec z ≡ None
above_none spec (negsuc n) small h = refl
above_none spec (pos n) small h =
    elim (cases_Bool (nat_lt n (2 ^ 64))) [
      | inl e ↦ absurd (let own : below (2 ^ 64) (pos n) ≡ Some n = rw e refl in cc (sym own ∙ h))
      | inr e ↦
          let most = pow-le-pow_right {n = 2} (omega arith) {i = spec.width} {j = 64} small in
          let over : nat_lt (2 ^ spec.width - 1) n ≡ true =
          lt-ltb (2 ^ spec.width - 1) n (grind (arith, nat_tests)) in
          rw over refl
    ]

pub above_some : (spec : Spec) (z : ℤ) (n : ℕ) → below (2 ^ 64) z ≡ Some n → number_above spec z
    ≡ unless_missing spec n
above_some spec z n h = ap (number_above spec) (number_is z n h)

-- ---- octets in turn

pub octets_next : (k m : ℕ) (text : List ℕ) (front : Option (ℕ × List ℕ)) → k ≡ suc m
    → first_octet text ≡ front → octets_before k text
    ≡ option_and_then (λ (x : ℕ × List ℕ). then_octets x.0 (octets_before m x.1)) front
unfolding octets_before
octets_next k m text front e h =
    ap (λ n. octets_before n text) e
    ∙ ap (λ o. option_and_then (λ (x : ℕ × List ℕ). then_octets x.0 (octets_before m x.1)) o) h

pub octets_last : (k : ℕ) (text : List ℕ) → k ≡ 0 → octets_before k text
    ≡ (if bytes_eq text (34 ∷ []) then Some [] else None)
unfolding octets_before
octets_last k text e = ap (λ n. octets_before n text) e

pub octets_ended : (k : ℕ) (text xs : List ℕ) → k ≡ 0 → bytes_eq text (34 ∷ []) ≡ true
    → behind xs (octets_before k text) ≡ Some xs
octets_ended k text xs e h =
    let last : octets_before k text ≡ Some [] = octets_last k text e ∙ rw h refl in
    ap (behind xs) last ∙ behind_end xs

pub octets_unended : (k : ℕ) (text xs : List ℕ) → k ≡ 0 → bytes_eq text (34 ∷ []) ≡ false
    → behind xs (octets_before k text) ≡ None
octets_unended k text xs e h =
    let last : octets_before k text ≡ None = octets_last k text e ∙ rw h refl in
    ap (behind xs) last
