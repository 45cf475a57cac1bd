-- The octets at the place begin the bits left.
use Rattle.std.proofs.Common.{◌+◌, ◌*◌, arith, refl}
use Rattle.bufr_bits.proofs.Fronts.{octets_found, octets_missing}
use Rattle.bufr_bits.proofs.bit_reader.BitReader.take_bytes.Goals as goal

pub returns-then-left-width-clause-short : goal.returns-then-left-width-clause-short
returns-then-left-width-clause-short c =
    let rest = rw (← c.self.view_is) at c.left.ensures.rest in (
      rw (← c.self.view_is)
          (octets_missing c.self.inside.octets.now c.self.inside.place c.args.n
          (omega (arith, rest, c.from-width.ensures)) (omega (arith, c.self.invariant))),
      refl,
    )

pub returns-clause-found : goal.returns-clause-found
returns-clause-found c =
    let rest = rw (← c.self.view_is) at c.left.ensures.rest in
    rw (← c.self.view_is)
    (octets_found c.self.inside.octets.now c.self.inside.place c.args.n
    (c.self.inside.place + 8 * c.from-width.result) c.in_ok-octets.octets.items
    (omega (arith, c.from-width.ensures))
    (omega (arith, rest, c.from-width.ensures)) c.in_ok-octets.ensures)
