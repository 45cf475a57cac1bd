-- Above 64 bits no number of 64 bits is the greatest.
use Rattle.std.proofs.Common.{◌≡◌, ◌^◌, ◌≤◌, ◌<◌, ◌+◌, eqb, false, ℕ, arith}
use Rattle.std.proofs.lemmas.Bool.Decides.{nat_tests}
use Rattle.std.proofs.Math.Pow.{pow_mono}
use Rattle.bufr_fields.proofs.form.is_greatest.Goals as goal

apart : (a b : ℕ) → a < b → false ≡ eqb a b
apart a b h = grind (arith, nat_tests)

pub returns-then-width-gt-MOST_RAW_BITS : goal.returns-then-width-gt-MOST_RAW_BITS
returns-then-width-gt-MOST_RAW_BITS c =
    let wide : 65 ≤ c.args.width = omega arith in
    let most : 2 ^ 65 ≤ 2 ^ c.args.width = pow_mono wide in
    apart (c.args.number + 1) (2 ^ c.args.width) (omega arith)
