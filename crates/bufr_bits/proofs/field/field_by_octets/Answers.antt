-- The octets that hold the field spell its number after a shift and a mask.
use Rattle.std.proofs.Common.{◌+◌, ◌-◌, ◌*◌, ◌/◌, arith}
use Rattle.bufr_bits.proofs.BitLists.{field_masked}
use Rattle.bufr_bits.proofs.field.field_by_octets.Goals as goal

pub returns : goal.returns
returns c =
    let place = c.args.place in
    let end = c.div_ceil-end.result in
    let up = c.div_ceil-end.ensures in
    field_masked c.args.octets.now c.spelt-number.result (place / 8) end place c.args.width
    (8 * end - (place + c.from.result)) 128
    c.spelt-number.ensures (omega arith) (omega (arith, c.from.ensures, up))
    (omega (arith, c.from.ensures, up, c.requires)) (omega (arith, c.requires))
