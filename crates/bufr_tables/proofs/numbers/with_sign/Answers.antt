use Rattle.std.proofs.Common.{◌≡◌, ◌∙◌, ℕ, zero, suc, ◌-◌, ◌<◌, ◌≤◌, ◌^◌, pos, ◌-ℤ◌, Some, true, ap}
use Rattle.std.proofs.Common.{sym, to_z, of_z, w64, arith}
use Rattle.std.specs.Prelude.{nat_lt, if◌then◌else◌}
use Rattle.std.proofs.lemmas.Bool.Decides.{nat_tests}
use Rattle.std.proofs.lemmas.Int.{ints}
use Rattle.bufr_tables.specs.Numbers.{negative, signed_fit}
use Rattle.bufr_tables.proofs.numbers.with_sign.Goals as goal

below_zero : (n : ℕ) → 0 < n → n ≤ 2 ^ 63
    → to_z w64 (of_z w64 (to_z w64 (of_z w64 (pos 0 -ℤ to_z w64 (n - 1))) -ℤ pos 1)) ≡ negative n
below_zero zero h fits = absurd (omega arith)
below_zero (suc n) h fits = grind (arith, ints)

below_zero_fits : (n : ℕ) → 0 < n → n ≤ 2 ^ 63 → signed_fit 64 (negative n) ≡ Some (negative n)
below_zero_fits zero h fits = absurd (omega arith)
below_zero_fits (suc n) h fits =
    let short : nat_lt n (2 ^ 63) ≡ true = grind (arith, nat_tests) in rw short

pub returns-then-n-gt0 : goal.returns-then-n-gt0
returns-then-n-gt0 c =
    let n = c.args.n in
    let fits = c.if-n-gt9223372036854775808.false in
    ap Some (below_zero n c.if-n-gt0.true fits) ∙ sym (below_zero_fits n c.if-n-gt0.true fits)
    ∙ ap (λ b. signed_fit 64 (if b then negative n else pos n)) (sym c.if-is_negative.true)
