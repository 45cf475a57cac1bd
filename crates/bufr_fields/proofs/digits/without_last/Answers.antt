-- 10 to the 38th fits 128 bits, and 10 to the 39th does not.
use Rattle.std.proofs.Common.{◌^◌, ◌≤◌, sym, arith}
use Rattle.std.proofs.Math.Nat.{pow-le-pow_right, one-le-pow, div-eq_of_lt}
use Rattle.bufr_fields.proofs.digits.without_last.Goals as goal

pub pow-requires : goal.pow-requires
pow-requires c =
    let most : 10 ^ c.args.places ≤ 10 ^ 38 =
    pow-le-pow_right {n = 10} (omega arith) {i = c.args.places} {j = 38} (omega arith) in
    omega arith

pub nonzero_div-result : goal.nonzero_div-result
nonzero_div-result c = omega (arith, c.pow.ensures, one-le-pow c.args.places 10 (omega arith))

pub returns-then-places-gt38 : goal.returns-then-places-gt38
returns-then-places-gt38 c =
    let least : 10 ^ 39 ≤ 10 ^ c.args.places =
    pow-le-pow_right {n = 10} (omega arith) {i = 39} {j = c.args.places} (omega arith) in
    sym (div-eq_of_lt {n = c.args.number} {m = 10 ^ c.args.places} (omega arith))
