-- The clauses of `write_header`: the header line was put, and then no row waits; or that stopped.
use Rattle.std.proofs.Common.{◌∙◌, ◌++◌, ap, Err, List, ℕ, map, subst, sym}
use Rattle.bufr_io.specs.declared.fault.ToolFault.TheVariants as faults
use Rattle.bufr_io.specs.Lines.{AreWholeLines}
use Rattle.bufr_io.specs.PassingLaws.{passed}
use Rattle.bufr_select_rows.specs.Columns.{word}
use Rattle.bufr_select_rows.specs.Rows.{header}
use Rattle.bufr_io.specs.HeldTexts.{Puts, PutsOrStops}
use Rattle.bufr_io.specs.HeldLaws.{row_written, stops_none}
use Rattle.bufr_select_rows.specs.RowLaws.{row_whole}
use Rattle.bufr_select_engine.proofs.SelectorFacts.{written_none}
use Rattle.bufr_select_engine.proofs.frame_selector.FrameSelector.write_header.Goals as goal

-- the line is whole
pub put-requires-clause-whole : goal.put-requires-clause-whole
put-requires-clause-whole g c =
    subst AreWholeLines (sym (c.deref.ensures.value ∙ c.in_ok-push_header.ensures
    ∙ ap (λ (t : List ℕ). t ++ header c.args.self.now.columns.now) c.new-line.ensures.items))
    (row_whole (map word c.args.self.now.columns.now))

-- memory ran out
pub returns-in_err-push_header-clause-puts : goal.returns-in_err-push_header-clause-puts
returns-in_err-push_header-clause-puts g c =
    let p = c.args.self.now in
    let w = g.W.Sink.writing c.args.writer.now in
    passed (PutsOrStops (header p.columns.now) p.rows w p.rows w) c.from_residual.result
    faults.OutOfMemory c.from_residual.ensures.1
    (stops_none (header p.columns.now) p.rows w c.requires.works)

-- the line was not put
pub returns-in_err-put-clause-puts : goal.returns-in_err-put-clause-puts
returns-in_err-put-clause-puts g c =
    let p = c.args.self.now in
    let w = g.W.Sink.writing c.args.writer.now in
    let w1 = g.W.Sink.writing c.put.new.writer in
    passed (PutsOrStops (header p.columns.now) p.rows w c.put.new.self w1)
    c.from_residual-in_err-put.result c.in_err-put.field-0.0 c.from_residual-in_err-put.ensures.1
    (subst (λ (t : List ℕ). PutsOrStops t p.rows w c.put.new.self w1 (Err c.in_err-put.field-0.0))
    (c.deref.ensures.value ∙ c.in_ok-push_header.ensures
    ∙ ap (λ (t : List ℕ). t ++ header c.args.self.now.columns.now) c.new-line.ensures.items) c.in_err-put.ensures.puts)

-- it was, and then the rows that wait are written
pub returns-clause-puts : goal.returns-clause-puts
returns-clause-puts g c =
    let p = c.args.self.now in
    let w = g.W.Sink.writing c.args.writer.now in
    let w1 = g.W.Sink.writing c.put.new.writer in
    row_written (header p.columns.now) p.rows c.put.new.self c.write.new.self w w1
    (g.W.Sink.writing c.write.new.writer) c.write.result c.in_ok-put.ensures.works
    (subst (λ (t : List ℕ). Puts t p.rows w c.put.new.self w1)
    (c.deref.ensures.value ∙ c.in_ok-push_header.ensures
    ∙ ap (λ (t : List ℕ). t ++ header c.args.self.now.columns.now) c.new-line.ensures.items) c.in_ok-put.ensures.puts)
    c.write.ensures.writes

-- no row waits
pub returns-clause-held : goal.returns-clause-held
returns-clause-held g c =
    written_none c.put.new.self c.write.new.self (g.W.Sink.writing c.put.new.writer)
    (g.W.Sink.writing c.write.new.writer) c.write.result c.write.ensures.writes
