-- A number of 64 bits has at most twenty digits, so they fit the row.
use Rattle.std.proofs.Common.{rules, arith, ◌∙◌, append-nil, decimal}
use Rattle.std.proofs.lemmas.Fmt.{length-decimal-le}
use Rattle.bufr_select_rows.proofs.DigitRows.{point_written}
use Rattle.bufr_select_rows.proofs.TextFacts.{on_ok_same}
use Rattle.bufr_select_rows.proofs.text.push_digits.Goals as goal

pub write_digits-first-requires : goal.write_digits-first-requires
write_digits-first-requires c = search (rules, length-decimal-le 20)

pub returns : goal.returns
returns c =
    let digits = c.write_digits-first.ensures in
    on_ok_same c.extend_from_slice-3.result _ _ _ _ c.extend_from_slice-3.ensures.items
    (point_written _ _ _ _ _ _ _ (omega (arith, c.if-places-eq0.false)) c.requires digits.start
    c.min-start.ensures c.write_digits-first.auto.buf digits.before
    (digits.written ∙ append-nil (decimal c.args.size))
    c.in_ok-extend_from_slice.ensures.items)
