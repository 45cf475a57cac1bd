-- A number of 16 bits has at most five digits, so each fits the row with its space.
use Rattle.std.proofs.Common.{◌<◌, ◌^◌, ◌-◌, arith}
use Rattle.std.proofs.lemmas.Fmt.{length-decimal-le}
use Rattle.bufr_listing.proofs.QuoteFacts.{on_ok_same}
use Rattle.bufr_listing.proofs.RowFacts.{number_put, room_before, numbers_written}
use Rattle.bufr_listing.proofs.heading.push_numbers.Goals as goal

pub write_digits-first-requires : goal.write_digits-first-requires
write_digits-first-requires c =
    let i = c.loop-left.invariant in
    let fits = c.type_inv.numbers (c.loop-left.left - 1) in
    let small : c.from.result < 2 ^ 16 = omega (arith, c.from.ensures, fits) in
    let short = length-decimal-le 5 c.from.result (omega arith) (omega (arith, small))
    (omega (arith, small)) in
    (omega (arith, short, i.1, c.loop-left-test.true), omega (arith, i.2))

pub overflow_sub-first : goal.overflow_sub-first
overflow_sub-first c =
    let i = c.loop-left.invariant in
    let fits = c.type_inv.numbers (c.loop-left.left - 1) in
    let small : c.from.result < 2 ^ 16 = omega (arith, c.from.ensures, fits) in
    (room_before _ _ _ small (omega (arith, i.1, c.loop-left-test.true))
    c.write_digits-first.ensures.start).0

pub loop-left-preserved : goal.loop-left-preserved
loop-left-preserved c =
    let i = c.loop-left.invariant in
    let fits = c.type_inv.numbers (c.loop-left.left - 1) in
    let small : c.from.result < 2 ^ 16 = omega (arith, c.from.ensures, fits) in
    number_put _ _ _ _ _ _ _ c.loop-left-test.true i.3 i.0 i.1 i.2 c.from.ensures small
    (omega (arith, c.write_digits-first.auto.buf)) c.write_digits-first.ensures.start
    c.write_digits-first.ensures.written

pub returns : goal.returns
returns c =
    let i = c.loop-left.invariant in
    on_ok_same c.extend_from_slice-2.result _ _ _ _ c.extend_from_slice-2.ensures.items
    (numbers_written _ _ _ _ _ _ c.loop-left.left (omega arith) i.2
    (omega (arith, c.loop-left-test.false)) i.0 c.in_ok-extend_from_slice.ensures.items)
