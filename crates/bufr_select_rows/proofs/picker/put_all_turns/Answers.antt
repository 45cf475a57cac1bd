-- The row of the span before, and then those of the turns.
use Rattle.std.proofs.Common.{◌++◌}
use Rattle.bufr_io.specs.HeldLaws.{stops_longer, stops_none}
use Rattle.bufr_io.specs.HeldTexts.{PutsOrStops}
use Rattle.bufr_io.specs.PassingLaws.{passed}
use Rattle.bufr_io.specs.declared.fault.ToolFault.TheVariants as faults
use Rattle.bufr_select_rows.specs.Cells.{ended}
use Rattle.bufr_select_rows.specs.Turns.{turns_rows}
use Rattle.bufr_select_rows.proofs.TurnFacts.{puts_then}
use Rattle.bufr_select_rows.proofs.picker.put_all_turns.Goals as goal

-- there was no memory for the numbers
pub returns-in_err-room-clause-puts : goal.returns-in_err-room-clause-puts
returns-in_err-room-clause-puts g c d opens =
    let a = c.args in
    let w = g.W.Sink.writing a.writer.now in
    let text = ended a.in_span a.cells.now ++ turns_rows d a.cells.now a.turns.now in
    passed (PutsOrStops text a.rows.now w a.rows.now w) c.from_residual.result faults.OutOfMemory
    c.from_residual.ensures.1 (stops_none text a.rows.now w c.requires.works)

-- putting the row of the span before stopped
pub returns-in_err-put_ended-clause-puts : goal.returns-in_err-put_ended-clause-puts
returns-in_err-put_ended-clause-puts g c d opens =
    let a = c.args in
    let w = g.W.Sink.writing a.writer.now in
    let w1 = g.W.Sink.writing c.put_ended.new.writer in
    let row = ended a.in_span a.cells.now in
    let text = turns_rows d a.cells.now a.turns.now in
    let e = c.in_err-put_ended.field-0.0 in
    passed (PutsOrStops (row ++ text) a.rows.now w c.put_ended.new.rows w1)
    c.from_residual-in_err-put_ended.result e c.from_residual-in_err-put_ended.ensures.1
    (stops_longer row text a.rows.now c.put_ended.new.rows w w1 e c.in_err-put_ended.ensures.puts)

pub returns-clause-puts : goal.returns-clause-puts
returns-clause-puts g c d opens =
    let a = c.args in
    puts_then (ended a.in_span a.cells.now) (turns_rows d a.cells.now a.turns.now) a.rows.now
    c.put_ended.new.rows c.put_each_turn.new.rows (g.W.Sink.writing a.writer.now)
    (g.W.Sink.writing c.put_ended.new.writer) (g.W.Sink.writing c.put_each_turn.new.writer)
    c.put_each_turn.result c.in_ok-put_ended.ensures.puts (c.put_each_turn.ensures.puts d opens)
