-- Digits written from their end: for the functions of `decimals`.
use Rattle.std.proofs.Common.{◌≡◌, ℕ, zero, suc, ◌+◌, ◌-◌, ◌/◌, ◌%◌, ◌*◌, ◌^◌, ◌<◌, ◌≤◌, List, [], ◌∷◌, ◌++◌}
use Rattle.std.proofs.Common.{length, drop, set, refl, sym, ap, ◌∙◌}
use Rattle.std.proofs.Common.{arith, add-one, append_assoc}
use Rattle.std.specs.Prelude.{decimal, negsuc, pos, ◌==◌, Bool, true, false, if◌then◌else◌}
use Rattle.std.proofs.lemmas.Bool.Decides.{nat_tests}
use Rattle.std.proofs.Math.Nat.{pow-suc, div-div-eq-div-mul}
use Rattle.bufr_fields.specs.Digits.{last_digits}
use Rattle.bufr_fields.specs.DigitFacts.{pointed_is}
use Rattle.bufr_fields.specs.Values.{digits_by}
use Rattle.bufr_listing.specs.DecimalLaws.{octet_before}

-- one digit more
pub digit_written : (row after : List ℕ) (end count size left : ℕ) → count < end
    → end ≤ length row → left ≡ size / 10 ^ count
    → drop (end - count) row ≡ last_digits count size ++ after
    → drop (end - (count + 1)) (set row (end - count - 1) (48 + left % 10))
    ≡ last_digits (count + 1) size ++ after
digit_written row after end count size left some inside is written =
    let at : end - (count + 1) ≡ end - count - 1 = omega arith in
    ap (λ n. drop n (set row (end - count - 1) (48 + left % 10))) at
    ∙ octet_before row (48 + left % 10) (end - count - 1) (end - count) (omega (arith, some))
    (omega (arith, inside))
    ∙ ap (λ (t : List ℕ). (48 + left % 10) ∷ t) written
    ∙ ap (λ n. (48 + n % 10) ∷ (last_digits count size ++ after)) is
    ∙ ap (λ n. last_digits n size ++ after) (sym (add-one count))

-- the number before it
pub digit_passed : (size left count : ℕ) → left ≡ size / 10 ^ count
    → left / 10 ≡ size / 10 ^ (count + 1)
digit_passed size left count is =
    let power : 10 ^ count * 10 ≡ 10 ^ suc count =
    let e = pow-suc 10 count in omega (arith, e) in
    ap (λ n. n / 10) is ∙ div-div-eq-div-mul size (10 ^ count) 10
    ∙ ap (λ n. size / n) (power ∙ ap (λ n. 10 ^ n) (sym (add-one count)))

-- digits with a point
pub point_written : (row row' room after : List ℕ) (size whole places point end start : ℕ)
    → 0 < places → size < 10 ^ 64 → point + 1 ≡ end - places → end ≤ length row
    → drop (end - places) row ≡ last_digits places size ++ after → whole ≡ size / 10 ^ places
    → row' ≡ set row point 46 → drop start room ≡ decimal whole ++ drop point row'
    → drop start room ≡ digits_by (pos places) size ++ after
point_written row row' room after size whole zero point end start some small next inside last is set_is
    written = absurd (omega (arith, some))
point_written row row' room after size whole (suc s) point end start some small next inside last is set_is
    written =
    written
    ∙ ap (λ (r : List ℕ). decimal whole ++ drop point r) set_is
    ∙ ap (λ (t : List ℕ). decimal whole ++ t)
    (octet_before row 46 point (end - suc s) next (omega (arith, inside))
    ∙ ap (λ (t : List ℕ). 46 ∷ t) last)
    ∙ ap (λ n. decimal n ++ (46 ∷ (last_digits (suc s) size ++ after))) is
    ∙ sym (append_assoc (decimal (size / 10 ^ suc s)) (46 ∷ last_digits (suc s) size) after)
    ∙ ap (λ (t : List ℕ). t ++ after) (sym (pointed_is s size small))

-- digits and a zero
zero_if : (is : Bool) (size : ℕ) → is ≡ false
    → (if is then decimal 0 else decimal size ++ 48 ∷ []) ≡ decimal size ++ 48 ∷ []
zero_if true size some = absurd cc
zero_if false size some = refl

no_zero : (n : ℕ) → (n ≡ 0 → ⊥) → (n == 0) ≡ false
no_zero n some = grind (arith, nat_tests)

pub tens_written : (row room : List ℕ) (size end start : ℕ) → (size ≡ 0 → ⊥) → 0 < end
    → end ≤ length row → drop start room ≡ decimal size ++ drop (end - 1) (set row (end - 1) 48)
    → drop start room ≡ digits_by (negsuc 0) size ++ drop end row
tens_written row room size end start some inside within written =
    written
    ∙ ap (λ (t : List ℕ). decimal size ++ t)
    (octet_before row 48 (end - 1) end (omega (arith, inside)) within)
    ∙ sym (append_assoc (decimal size) (48 ∷ []) (drop end row))
    ∙ ap (λ (t : List ℕ). t ++ drop end row)
    (sym (zero_if (size == 0) size (no_zero size some)))
