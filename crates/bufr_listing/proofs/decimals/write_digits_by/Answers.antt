-- The clauses of `write_digits_by`: the digits before the point, and those after it.
use Rattle.std.proofs.Common.{◌≤◌, ◌-◌, arith, decimal, drop, length, refl}
use Rattle.std.proofs.lemmas.Fmt.{length-decimal-le}
use Rattle.std.proofs.lemmas.List.{length-set}
use Rattle.bufr_listing.proofs.DecimalFacts.{point_written}
use Rattle.bufr_listing.proofs.decimals.write_digits_by.Goals as goal

pub write_digits-requires : goal.write_digits-requires
write_digits-requires c =
    let short : length (decimal c.args.size) ≤ 20 =
    length-decimal-le 20 c.args.size (omega arith) (omega arith) (omega arith) in
    (omega (arith, short), omega arith)

pub returns-then-places-eq0-clause-short : goal.returns-then-places-eq0-clause-short
returns-then-places-eq0-clause-short c =
    let short : length (decimal c.args.size) ≤ 20 =
    length-decimal-le 20 c.args.size (omega arith) (omega arith) (omega arith) in
    omega (arith, short, c.write_digits.ensures.start)

pub write_digits-requires-2 : goal.write_digits-requires-2
write_digits-requires-2 c =
    let fits = c.write_last-whole.type_inv in
    let short : length (decimal c.write_last-whole.result) ≤ 20 =
    length-decimal-le 20 c.write_last-whole.result (omega arith) (omega (arith, fits)) fits in
    let long = length-set c.write_last-whole.new.room (c.args.end - c.args.places - 1) 46 in (
      omega (arith, short, c.requires.few, c.requires.room),
      omega (arith, long, c.write_last-whole.auto.room, c.requires.inside),
    )

pub returns-clause-written : goal.returns-clause-written
returns-clause-written c =
    point_written c.write_last-whole.new.room _ c.write_digits-2.new.buf
    (drop c.args.end c.args.room.now) c.args.size c.write_last-whole.result c.args.places
    (c.args.end - c.args.places - 1) c.args.end c.write_digits-2.result
    (omega (arith, c.if-places-eq0.false)) (omega arith)
    (omega (arith, c.requires.few, c.requires.room))
    (omega (arith, c.write_last-whole.auto.room, c.requires.inside))
    c.write_last-whole.ensures.written c.write_last-whole.ensures.rest refl
    c.write_digits-2.ensures.written

pub returns-clause-short : goal.returns-clause-short
returns-clause-short c =
    let fits = c.write_last-whole.type_inv in
    let short : length (decimal c.write_last-whole.result) ≤ 20 =
    length-decimal-le 20 c.write_last-whole.result (omega arith) (omega (arith, fits)) fits in
    omega (arith, short, c.write_digits-2.ensures.start, c.requires.few, c.requires.room)
