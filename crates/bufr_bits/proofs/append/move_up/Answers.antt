-- Each round moves the upper bits of one octet into the free bits of the octet before it.
use Rattle.std.proofs.Common.{◌+◌, ◌<◌, get_or, arith, refl}
use Rattle.bufr_bits.proofs.Moves.{Moving, move_none, move_fits, move_more}
use Rattle.bufr_bits.proofs.append.move_up.Goals as goal

pub loop-i-init : goal.loop-i-init
loop-i-init c =
    record {
      rest = refl;
      moved = move_none c.args.octets.now c.args.from c.args.free c.requires.begun
          c.requires.few c.requires.clear;
    }

pub overflow_add-octets : goal.overflow_add-octets
overflow_add-octets c =
    let m : Moving c.loop-i.octets c.args.octets.now c.args.from c.loop-i.i c.args.free = record {
      begun = c.loop-i.auto.i;
      within = omega arith;
      same = c.loop-i.auto.octets;
      some = c.requires.some;
      few = c.requires.few;
      rest = c.loop-i.invariant.rest;
      moved = c.loop-i.invariant.moved;
    } in
    let first : get_or c.loop-i.octets c.loop-i.i 0 < 256 = omega arith in
    let next : get_or c.loop-i.octets (c.loop-i.i + 1) 0 < 256 = omega arith in
    omega (
      arith,
      move_fits c.loop-i.octets c.args.octets.now c.args.from c.loop-i.i c.args.free m first next,
    )

pub loop-i-preserved : goal.loop-i-preserved
loop-i-preserved c =
    let m : Moving c.loop-i.octets c.args.octets.now c.args.from c.loop-i.i c.args.free = record {
      begun = c.loop-i.auto.i;
      within = omega arith;
      same = c.loop-i.auto.octets;
      some = c.requires.some;
      few = c.requires.few;
      rest = c.loop-i.invariant.rest;
      moved = c.loop-i.invariant.moved;
    } in
    let next : get_or c.loop-i.octets (c.loop-i.i + 1) 0 < 256 = omega arith in
    let more =
    move_more c.loop-i.octets c.args.octets.now c.args.from c.loop-i.i c.args.free m next in
    record { rest = more.0; moved = more.1 }
