-- The field at the place is the number that begins the bits left.
use Rattle.std.proofs.Common.{arith}
use Rattle.bufr_bits.proofs.Fronts.{number_found, number_missing}
use Rattle.bufr_bits.proofs.bit_reader.BitReader.take.Goals as goal

pub returns-then-left-from-clause-short : goal.returns-then-left-from-clause-short
returns-then-left-from-clause-short c =
    let rest = rw (← c.self.view_is) at c.left.ensures.rest in
    rw (← c.self.view_is)
    (number_missing c.self.inside.octets.now c.self.inside.place c.args.width
    (omega (arith, rest, c.from.ensures)) (omega (arith, c.self.invariant)))

pub returns-clause-found : goal.returns-clause-found
returns-clause-found c =
    let rest = rw (← c.self.view_is) at c.left.ensures.rest in
    rw (← c.self.view_is, c.from-2.ensures)
    (number_found c.self.inside.octets.now c.self.inside.place c.args.width c.field-number.result
    (omega (arith, rest, c.from.ensures)) c.field-number.ensures)
