-- The clause `puts` of `put`: the row waits, and the rows are written if they are long.
use Rattle.std.proofs.Common.{refl}
use Rattle.bufr_io.specs.declared.fault.ToolFault.TheVariants as faults
use Rattle.bufr_io.specs.PassingLaws.{passed}
use Rattle.bufr_io.specs.HeldTexts.{PutsOrStops}
use Rattle.bufr_io.specs.declared.held_rows.HeldRows.{HeldRows}
use Rattle.bufr_io.specs.HeldLaws.{row_held, row_written, stops_kept}
use Rattle.bufr_io.proofs.held_rows.HeldRows.put.Goals as goal

-- there was no memory for the row
pub returns-in_err-extend_from_slice-clause-puts : goal.returns-in_err-extend_from_slice-clause-puts
returns-in_err-extend_from_slice-clause-puts g c =
    let w = g.W.Sink.writing c.args.writer.now in
    let now : HeldRows = record c.args.self.now { held = c.extend_from_slice.new.self } in
    passed (PutsOrStops c.args.row.now c.args.self.now w now w) c.from_residual.result
    faults.OutOfMemory c.from_residual.ensures.1
    (stops_kept c.args.row.now c.args.self.now now w c.requires.works
    c.in_err-extend_from_slice.ensures.items refl)

-- the row waits
pub returns-then-len-lt-LONGEST_HELD-clause-puts : goal.returns-then-len-lt-LONGEST_HELD-clause-puts
returns-then-len-lt-LONGEST_HELD-clause-puts g c =
    row_held c.args.row.now c.args.self.now _ (g.W.Sink.writing c.args.writer.now)
    c.requires.whole c.in_ok-extend_from_slice.ensures.items refl

-- all rows are written
pub returns-clause-puts : goal.returns-clause-puts
returns-clause-puts g c =
    let w = g.W.Sink.writing c.args.writer.now in
    let now : HeldRows = record c.args.self.now { held = c.extend_from_slice.new.self } in
    row_written c.args.row.now c.args.self.now now c.write.new.self w w
    (g.W.Sink.writing c.write.new.writer) c.write.result c.requires.works
    (row_held c.args.row.now c.args.self.now now w c.requires.whole
    c.in_ok-extend_from_slice.ensures.items refl)
    c.write.ensures.writes
