-- Octets with the next bits are the next octets.
use Rattle.std.proofs.Common.{◌+◌, ◌*◌, length, arith, ap}
use Rattle.bufr_data.proofs.CompressedFacts.Lent.{copied_if, counted_if}
use Rattle.bufr_data.proofs.compressed.lent_text.copy_octets.Goals as goal

pub returns-clause-copied : goal.returns-clause-copied
returns-clause-copied c =
    copied_if c.args.reader.now c.octets.result.now c.fill_room.new.room c.place-from.result
    (c.place-from.result + 8 * c.from-bits.result) c.args.count c.in_ok-own.own
    c.octets.ensures c.place-from.ensures (omega (arith, c.from-bits.ensures))
    (omega (
      arith,
      c.left.ensures.rest,
      c.if-left-bits.false,
      c.place-from.ensures,
      ap length c.octets.ensures,
    )) c.fill_room.array_long c.are_octets.ensures
    c.in_ok-own.ensures.filled c.in_ok-own.ensures.within

pub returns-clause-all : goal.returns-clause-all
returns-clause-all c =
    counted_if c.octets.result.now c.fill_room.new.room c.place-from.result
    (c.place-from.result + 8 * c.from-bits.result) c.args.count c.in_ok-own.own
    (omega (arith, c.from-bits.ensures))
    (omega (
      arith,
      c.left.ensures.rest,
      c.if-left-bits.false,
      c.place-from.ensures,
      ap length c.octets.ensures,
    )) c.fill_room.array_long c.are_octets.ensures
    c.in_ok-own.ensures.filled c.in_ok-own.ensures.within
