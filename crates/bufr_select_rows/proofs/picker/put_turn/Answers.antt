-- The row of a turn waits, or is put by its cells.
use Rattle.std.proofs.Common.{◌≡◌, ℕ, ◌++◌, ◌∙◌, List, OnOk, Result, Ok, Err, ap, map, subst}
use Rattle.std.specs.Bool.{OnFalse, OnTrue}
use Rattle.bufr_io.specs.HeldLaws.{row_held, stops_kept}
use Rattle.bufr_io.specs.HeldTexts.{PutsOrStops}
use Rattle.bufr_io.specs.PassingLaws.{passed}
use Rattle.bufr_io.specs.declared.fault.ToolFault.TheVariants as faults
use Rattle.bufr_io.specs.declared.held_rows.HeldRows.{HeldRows}
use Rattle.bufr_select_rows.specs.Cells.{opened, row_of, shown}
use Rattle.bufr_select_rows.specs.RowLaws.{row_whole}
use Rattle.bufr_select_rows.specs.Turns.{after_turn, sourced_row, turn_row}
use Rattle.bufr_select_rows.specs.declared.cell.Cell.{Cell}
use Rattle.bufr_select_rows.proofs.TurnFacts.{opened_turn, row_sourced}
use Rattle.bufr_select_rows.proofs.picker.put_turn.Goals as goal

-- there was no memory for a row that waits
pub returns-in_err-hold_turn-clause-puts : goal.returns-in_err-hold_turn-clause-puts
returns-in_err-hold_turn-clause-puts g c =
    let a = c.args in
    let row = turn_row a.fields.now a.numbers.now a.cells.now in
    let w = g.W.Sink.writing a.writer.now in
    passed (PutsOrStops row a.rows.now w c.hold_turn.new.rows w) c.from_residual.result
    faults.OutOfMemory c.from_residual.ensures.1
    (stops_kept row a.rows.now c.hold_turn.new.rows w c.requires.works c.in_err-hold_turn.ensures.err
    c.in_err-hold_turn.ensures.written)

-- the row waits
pub returns-then-branch-clause-puts : goal.returns-then-branch-clause-puts
returns-then-branch-clause-puts g c =
    let a = c.args in
    let row = turn_row a.fields.now a.numbers.now a.cells.now in
    let held = subst
    (λ b. OnTrue b (c.hold_turn.new.rows.held.items ≡ a.rows.now.held.items
    ++ sourced_row a.fields.now a.numbers.now a.cells.now))
    c.if-branch.true c.in_ok-hold_turn.ensures.held in
    row_held row a.rows.now c.hold_turn.new.rows (g.W.Sink.writing a.writer.now)
    (row_whole (map shown (after_turn a.fields.now a.numbers.now a.cells.now)))
    (held ∙ ap (λ (text : List ℕ). a.rows.now.held.items ++ text)
    (row_sourced a.fields.now a.numbers.now a.cells.now c.requires.even))
    c.in_ok-hold_turn.ensures.written

-- it is put
pub returns-clause-puts : goal.returns-clause-puts
returns-clause-puts g c =
    let a = c.args in
    let w = g.W.Sink.writing a.writer.now in
    let same = subst (λ b. OnFalse b (c.hold_turn.new.rows ≡ a.rows.now)) c.if-branch.false
    c.in_ok-hold_turn.ensures.others in
    subst
    (λ (r : HeldRows). PutsOrStops (turn_row a.fields.now a.numbers.now a.cells.now) r w
    c.put_row.new.rows (g.W.Sink.writing c.put_row.new.writer) c.put_row.result)
    same
    (subst
    (λ (cells : List Cell). PutsOrStops (row_of cells) c.hold_turn.new.rows w c.put_row.new.rows
    (g.W.Sink.writing c.put_row.new.writer) c.put_row.result)
    c.note_turn.ensures c.put_row.ensures.puts)

-- the cells open as before
pub returns-clause-opened : goal.returns-clause-opened
returns-clause-opened g c =
    let a = c.args in
    on_ok c.put_row.result
    (ap (map opened) c.note_turn.ensures ∙ opened_turn a.fields.now a.numbers.now a.cells.now)
  where
    on_ok : {A E P : Type 0} (r : Result A E) → P → OnOk r P
    on_ok (Ok x) p = p
    on_ok (Err e) p = tt
