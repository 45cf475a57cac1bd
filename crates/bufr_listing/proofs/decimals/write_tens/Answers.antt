-- The clauses of `write_tens`: a zero after the digits.
use Rattle.std.proofs.Common.{◌≤◌, ◌-◌, arith, decimal, length}
use Rattle.std.proofs.lemmas.Fmt.{length-decimal-le}
use Rattle.std.proofs.lemmas.List.{length-set}
use Rattle.bufr_listing.proofs.DecimalFacts.{tens_written}
use Rattle.bufr_listing.proofs.decimals.write_tens.Goals as goal

pub write_digits-requires : goal.write_digits-requires
write_digits-requires c =
    let short : length (decimal 0) ≤ 20 =
    length-decimal-le 20 0 (omega arith) (omega arith) (omega arith) in
    (omega (arith, short, c.requires.room), c.requires.inside)

pub returns-then-size-eq0-clause-short : goal.returns-then-size-eq0-clause-short
returns-then-size-eq0-clause-short c =
    let short : length (decimal 0) ≤ 20 =
    length-decimal-le 20 0 (omega arith) (omega arith) (omega arith) in
    omega (arith, short, c.write_digits.ensures.start)

pub write_digits-requires-2 : goal.write_digits-requires-2
write_digits-requires-2 c =
    let short : length (decimal c.args.size) ≤ 20 =
    length-decimal-le 20 c.args.size (omega arith) (omega arith) (omega arith) in
    let long = length-set c.args.room.now (c.args.end - 1) 48 in
    (omega (arith, short, c.requires.room), omega (arith, long, c.requires.inside))

pub returns-clause-written : goal.returns-clause-written
returns-clause-written c =
    tens_written c.args.room.now c.write_digits-2.new.buf c.args.size c.args.end
    c.write_digits-2.result c.if-size-eq0.false (omega (arith, c.requires.room)) c.requires.inside
    c.write_digits-2.ensures.written

pub returns-clause-short : goal.returns-clause-short
returns-clause-short c =
    let short : length (decimal c.args.size) ≤ 20 =
    length-decimal-le 20 c.args.size (omega arith) (omega arith) (omega arith) in
    omega (arith, short, c.write_digits-2.ensures.start, c.requires.room)
