-- The increment at an index comes after those before it.
use Rattle.std.proofs.Common.{arith}
use Rattle.bufr_bits.specs.Ends.{left}
use Rattle.bufr_bits.specs.BitLaws.{number_at_is}
use Rattle.bufr_data.proofs.CompressedFacts.Passed.{product_is}
use Rattle.bufr_data.proofs.CompressedFacts.Values.{number_past, narrow_number}
use Rattle.bufr_data.proofs.compressed.value.number_value.Goals as goal

pub overflow_cast-k : goal.overflow_cast-k
overflow_cast-k c =
    let below = (number_at_is 6 _ _ _ c.in_ok-k.ensures.found).1 in omega (arith, below)

pub returns-then-not-pass : goal.returns-then-not-pass
returns-then-not-pass c =
    number_past c.args.spec c.args.index (left c.args.reader.now) (left c.take.new.self)
    (left c.take-2.new.self) c.in_ok-minimum.minimum c.in_ok-k.field-0 _ c.requires
    (narrow_number c.args.spec.width _ _ c.if-spec-gt-MOST_RAW_BITS.false
    c.in_ok-minimum.ensures.found) c.in_ok-k.ensures.found c.if-k-eq0.false
    (product_is _ _ _ _ c.from.ensures c.from-2.ensures) c.if-not-pass.ensures.short

pub take-requires-3 : goal.take-requires-3
take-requires-3 c =
    let below = (number_at_is 6 _ _ _ c.in_ok-k.ensures.found).1 in omega (arith, below)

pub raised-requires-clause-few : goal.raised-requires-clause-few
raised-requires-clause-few c = (number_at_is 6 _ _ _ c.in_ok-k.ensures.found).1
