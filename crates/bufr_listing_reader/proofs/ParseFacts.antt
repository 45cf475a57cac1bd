-- `parse_decimal` returns the only decimal of a text: for the readers of numbers.
use Rattle.std.proofs.Common.{◌≡◌, ◌<◌, ◌≤◌, ◌^◌, ℕ, false, List, inl, inr, refl, sym, ap}
use Rattle.std.proofs.Common.{◌∙◌, arith}
use Rattle.std.specs.Prelude.{Option, Some, None, IfSome, ℤ, pos, negsuc, option_and_then, nat_lt}
use Rattle.std.proofs.lemmas.Bool.{cases_Bool, lt-ltb}
use Rattle.std.proofs.lemmas.Bool.Decides.{nat_tests}
use Rattle.bufr_listing_reader.specs.Words.{below, number_below}
use Rattle.bufr_fields.specs.declared.field.Decimal.{Decimal}
use Rattle.bufr_fields.specs.Values.{text_of}
use Rattle.bufr_fields.specs.DecimalTexts.{IsDecimal, decimal_of}
use Rattle.bufr_fields.specs.DecimalTextLaws.{IsRead, decimal_found, decimal_only}

none_by : (o : Option Decimal) (scale : ℤ) (text : List ℕ) → IfSome o (λ d. IsRead scale text d)
    → ((d : Decimal) → IsDecimal d → d.scale ≡ scale → text_of d ≡ text
    → ◌≡◌ {A = Option Decimal} None (Some d)) → None ≡ o
none_by None scale text found only = refl
none_by (Some d) scale text found only = absurd (cc (only d found.1 found.0 found.2))

pub parsed : (r : Option Decimal) (scale : ℤ) (text : List ℕ) → IfSome r (λ d. IsRead scale text d)
    → ((d : Decimal) → IsDecimal d → d.scale ≡ scale → text_of d ≡ text → r ≡ Some d)
    → r ≡ decimal_of scale text
parsed None scale text found only =
    none_by (decimal_of scale text) scale text (decimal_found scale text) only
parsed (Some d) scale text found only = sym (decimal_only scale text d found.1 found.0 found.2)

-- ---- numbers below a limit

pub below_none : (limit : ℕ) (z : ℤ) → limit ≤ 2 ^ 64 → below (2 ^ 64) z ≡ None
    → below limit z ≡ None
below_none limit (negsuc n) small h = refl
below_none limit (pos n) small h =
    elim (cases_Bool (nat_lt n (2 ^ 64))) [
      | inl e ↦ absurd (let own : below (2 ^ 64) (pos n) ≡ Some n = rw e refl in cc (sym own ∙ h))
      | inr e ↦ let no : nat_lt n limit ≡ false = grind (arith, nat_tests) in rw no refl
    ]

pub number_is : (z : ℤ) (n : ℕ) → below (2 ^ 64) z ≡ Some n → z ≡ pos n
number_is (negsuc m) n h = absurd cc
number_is (pos m) n h =
    elim (cases_Bool (nat_lt m (2 ^ 64))) [
      | inl e ↦ let own : below (2 ^ 64) (pos m) ≡ Some m = rw e refl in
          let same : m ≡ n = cc (sym own ∙ h) in ap pos same
      | inr e ↦ absurd (let own : below (2 ^ 64) (pos m) ≡ None = rw e refl in cc (sym own ∙ h))
    ]

pub below_some : (limit n : ℕ) (z : ℤ) → below (2 ^ 64) z ≡ Some n → n < limit
    → below limit z ≡ Some n
below_some limit n z h lt = ap (below limit) (number_is z n h) ∙ rw (lt-ltb n limit lt) refl

pub below_over : (limit n : ℕ) (z : ℤ) → below (2 ^ 64) z ≡ Some n → (n < limit → ⊥)
    → below limit z ≡ None
below_over limit n z h above = let large : nat_lt n limit ≡ false = grind (arith, nat_tests) in
    ap (below limit) (number_is z n h) ∙ rw large refl

pub word_by : (limit : ℕ) (word : List ℕ) (o : Option Decimal) → decimal_of (pos 0) word ≡ o
    → number_below limit word ≡ option_and_then (λ (d : Decimal). below limit d.units) o
word_by limit word o h = ap (option_and_then (λ (d : Decimal). below limit d.units)) h
