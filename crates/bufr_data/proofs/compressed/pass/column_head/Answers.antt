use Rattle.std.proofs.Common.{arith}
use Rattle.bufr_bits.specs.BitLaws.{number_at_is}
use Rattle.bufr_data.proofs.compressed.pass.column_head.Goals as goal

pub overflow_cast-result : goal.overflow_cast-result
overflow_cast-result c =
    let below = (number_at_is 6 _ _ _ c.in-Some-take.ensures.found).1 in omega (arith, below)

pub returns-in-Some-take-clause-below : goal.returns-in-Some-take-clause-below
returns-in-Some-take-clause-below c = (number_at_is c.args.width _ _ _ c.in-Some.ensures.found).1

pub returns-in-Some-take-clause-few : goal.returns-in-Some-take-clause-few
returns-in-Some-take-clause-few c = (number_at_is 6 _ _ _ c.in-Some-take.ensures.found).1
