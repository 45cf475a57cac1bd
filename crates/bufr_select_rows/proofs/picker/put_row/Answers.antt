-- The row of the cells is a line, which waits or is put.
use Rattle.std.proofs.Common.{◌≡◌, ◌++◌, map, sym, subst}
use Rattle.std.specs.Bool.{OnTrue}
use Rattle.bufr_io.specs.declared.fault.ToolFault.TheVariants as faults
use Rattle.bufr_io.specs.HeldLaws.{row_held, stops_kept}
use Rattle.bufr_io.specs.HeldTexts.{PutsOrStops}
use Rattle.bufr_io.specs.Lines.{AreWholeLines}
use Rattle.bufr_io.specs.PassingLaws.{passed}
use Rattle.bufr_select_rows.specs.Cells.{row_of, shown}
use Rattle.bufr_select_rows.specs.RowLaws.{row_whole}
use Rattle.bufr_select_rows.proofs.picker.put_row.Goals as goal

pub put-requires-clause-whole : goal.put-requires-clause-whole
put-requires-clause-whole g c =
    subst AreWholeLines (sym c.in-Ok.ensures) (row_whole (map shown c.args.cells.now))

-- there was no memory for a row that waits
pub returns-in_err-hold-clause-puts : goal.returns-in_err-hold-clause-puts
returns-in_err-hold-clause-puts g c =
    let row = row_of c.args.cells.now in
    let w = g.W.Sink.writing c.args.writer.now in
    passed (PutsOrStops row c.args.rows.now w c.hold.new.rows w) c.from_residual.result
    faults.OutOfMemory c.from_residual.ensures.1
    (stops_kept row c.args.rows.now c.hold.new.rows w c.requires.works c.in_err-hold.ensures.err
    c.in_err-hold.ensures.written)

-- the row waits
pub returns-then-branch-clause-puts : goal.returns-then-branch-clause-puts
returns-then-branch-clause-puts g c =
    let row = row_of c.args.cells.now in
    row_held row c.args.rows.now c.hold.new.rows (g.W.Sink.writing c.args.writer.now)
    (row_whole (map shown c.args.cells.now))
    (subst
    (λ b. OnTrue b (c.hold.new.rows.held.items ≡ c.args.rows.now.held.items ++ row))
    c.if-branch.true c.in_ok-hold.ensures.held)
    c.in_ok-hold.ensures.written
