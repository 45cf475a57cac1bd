-- A number of 64 bits has at most twenty digits, so it fits with its space.
use Rattle.std.proofs.Common.{arith}
use Rattle.std.proofs.lemmas.Fmt.{length-decimal-le}
use Rattle.bufr_engines.proofs.TextFacts.{put_before}
use Rattle.bufr_engines.proofs.frame_lines.put_spaced.Goals as goal

pub write_digits-first-requires : goal.write_digits-first-requires
write_digits-first-requires c =
    let short = length-decimal-le 20 c.args.number (omega arith) (omega (arith, c.ranges.number.fits))
    (omega (arith, c.ranges.number.fits)) in
    (omega (arith, short, c.requires.room), c.requires.within)

pub overflow_sub-first : goal.overflow_sub-first
overflow_sub-first c =
    let short = length-decimal-le 20 c.args.number (omega arith) (omega (arith, c.ranges.number.fits))
    (omega (arith, c.ranges.number.fits)) in
    omega (arith, short, c.requires.room, c.write_digits-first.ensures.start)

pub returns-clause-put : goal.returns-clause-put
returns-clause-put c =
    let short = length-decimal-le 20 c.args.number (omega arith) (omega (arith, c.ranges.number.fits))
    (omega (arith, c.ranges.number.fits)) in
    let digits = c.write_digits-first.ensures in
    put_before c.write_digits-first.new.buf _ c.write_digits-first.result 32
    (omega (arith, short, c.requires.room, digits.start))
    (omega (arith, c.requires.within, digits.start, c.write_digits-first.auto.buf)) digits.written

pub returns-clause-near : goal.returns-clause-near
returns-clause-near c =
    let short = length-decimal-le 20 c.args.number (omega arith) (omega (arith, c.ranges.number.fits))
    (omega (arith, c.ranges.number.fits)) in
    omega (arith, short, c.requires.room, c.write_digits-first.ensures.start)
