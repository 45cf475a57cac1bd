-- The head is what was read.
use Rattle.std.proofs.Common.{arith}
use Rattle.bufr_bits.specs.BitLaws.{number_at_is}
use Rattle.bufr_data.proofs.CompressedFacts.Values.{head_there}
use Rattle.bufr_data.proofs.compressed.head.head_at.Goals as goal

pub overflow_cast-increment_bits : goal.overflow_cast-increment_bits
overflow_cast-increment_bits c =
    let below = (number_at_is 6 _ _ _ c.in_ok-increment_bits.ensures.found).1 in
    omega (arith, below)

pub returns : goal.returns
returns c =
    head_there c.args.octets.now c.args.bit c.args.spec _ c.at-reader.result c.take.new.self
    c.take-2.new.self c.left-left.result c.in_default.not-Text
    (omega (arith, c.if-spec-gt-MOST_RAW_BITS.false)) c.at-reader.ensures
    c.in_ok-minimum.ensures.moved c.in_ok-increment_bits.ensures.moved c.place-first.ensures
    c.left-left.ensures.rest c.in_ok-minimum.ensures.found c.in_ok-increment_bits.ensures.found
