use Rattle.std.proofs.Common.{arith}
use Rattle.bufr_bits.proofs.Fronts.{length-left, number_found}
use Rattle.bufr_bits.proofs.bit_reader.BitReader.take_short.Goals as goal

pub short_field-number-requires-clause-within : goal.short_field-number-requires-clause-within
short_field-number-requires-clause-within c =
    let enough = rw (← c.self.view_is) at c.requires.enough in
    omega (
      arith,
      enough,
      length-left c.self.inside.octets.now c.self.inside.place,
      c.self.invariant,
    )

pub invariant_of-self : goal.invariant_of-self
invariant_of-self c =
    let enough = rw (← c.self.view_is) at c.requires.enough in
    rw c.from.ensures
    (omega (
      arith,
      enough,
      length-left c.self.inside.octets.now c.self.inside.place,
      c.self.invariant,
    ))

pub returns-clause-found : goal.returns-clause-found
returns-clause-found c =
    let enough = rw (← c.self.view_is) at c.requires.enough in
    rw (← c.self.view_is, c.from.ensures)
    (number_found c.self.inside.octets.now c.self.inside.place c.args.width c.short_field-number.result
    (omega (
      arith,
      enough,
      length-left c.self.inside.octets.now c.self.inside.place,
      c.self.invariant,
    )) c.short_field-number.ensures)
