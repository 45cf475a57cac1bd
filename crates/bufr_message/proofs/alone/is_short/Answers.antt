use Rattle.std.proofs.Common.{arith}
use Rattle.bufr_message.proofs.AloneBits.{too_many}
use Rattle.bufr_message.proofs.alone.is_short.Goals as goal

pub returns-then-bits : goal.returns-then-bits
returns-then-bits c =
    too_many c.args.descriptors.now c.args.subset.now c.as_slice-field-items.result.now
    c.loop-field.field-index
    c.loop-field.bits c.bits_of-bits.result c.field-item.result c.as_slice-field-items.ensures
    c.loop-field-test.true
    c.field-item.is c.loop-field.invariant.0 c.bits_of-bits.ensures.value
    (omega (arith, c.if-bits.true))
