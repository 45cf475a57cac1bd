-- Powers of ten, and numbers within a limit.
use Rattle.std.proofs.Common.{◌≡◌, ◌≢◌, ℕ, zero, suc, ◌*◌, ◌^◌, ◌<◌, ◌≤◌, ℤ, pos, negsuc, ◌*ℤ◌}
use Rattle.std.proofs.Common.{false, Option, Some, None, MatchOption, refl, arith, lit<}
use Rattle.std.specs.Bool.{Decides}
use Rattle.std.proofs.Common.{FitsSigned, w64}
use Rattle.std.specs.Option.{SomeIff}
use Rattle.std.specs.Int.RustNames.{unsigned_abs}
use Rattle.std.proofs.lemmas.Int.{unsigned_abs-mul, fits_signed_from_abs}
use Rattle.std.proofs.lemmas.Bool.{leb-true, le-leb, ltb-true, lt-ltb, false_from_ne_true}
use Rattle.std.proofs.Math.Nat.{pow-le-pow_right, mul-le-mul}
use Rattle.bufr_expand.specs.Limits.{most_reference}
use Rattle.bufr_expand.specs.OperatorsInForce.{is_within}

pub ten_power_below : (y : ℕ) → y ≤ 18 → 10 ^ y ≤ 1000000000000000000
ten_power_below y h = pow-le-pow_right {n = 10} (lit< tt) h

pub ten_power_above : (y : ℕ) → 18 < y → 10000000000000000000 ≤ 10 ^ y
ten_power_above y h = let g : 19 ≤ y = omega arith in pow-le-pow_right {n = 10} (lit< tt) g

pub decides_within : (limit : ℕ) (z : ℤ) → Decides (is_within limit z) (unsigned_abs z ≤ limit)
decides_within limit (pos n) = (leb-true n limit, le-leb n limit)
decides_within limit (negsuc n) =
    (λ h. let k = ltb-true n limit h in omega arith, λ h. lt-ltb n limit (omega (arith, h)))

abs_from_one : (z : ℤ) → z ≢ pos 0 → 1 ≤ unsigned_abs z
abs_from_one (pos zero) h = absurd (h refl)
abs_from_one (pos (suc n)) h = omega arith
abs_from_one (negsuc n) h = omega arith

pub outside_times : (z : ℤ) (y : ℕ) → z ≢ pos 0 → 18 < y
    → is_within most_reference (z *ℤ pos (10 ^ y)) ≡ false
outside_times z y h g =
    let e = unsigned_abs-mul z (pos (10 ^ y)) in
    let one = abs_from_one z h in
    let ten = ten_power_above y g in
    let both : 1 * 10000000000000000000 ≤ unsigned_abs z * (10 ^ y) = mul-le-mul one ten in
    false_from_ne_true (is_within most_reference (z *ℤ pos (10 ^ y)))
    (λ h. let small = (decides_within most_reference (z *ℤ pos (10 ^ y))).0 h in omega arith)

pub outside_unfit : (z : ℤ) → (FitsSigned w64 z → ⊥) → is_within most_reference z ≡ false
outside_unfit z h =
    false_from_ne_true (is_within most_reference z)
    (λ e. let small = (decides_within most_reference z).0 e in
    h (fits_signed_from_abs w64 z (omega arith)))

pub checked_is : (o : Option ℤ) (z : ℤ) → SomeIff o (FitsSigned w64 z) z
    → MatchOption o (is_within most_reference z ≡ false) (λ r. r ≡ z)
checked_is None z h = outside_unfit z h
checked_is (Some r) z h = h.1
