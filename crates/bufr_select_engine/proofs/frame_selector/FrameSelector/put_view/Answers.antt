-- The clauses of `put_view`: the rows that are picked are those of the selection.
use Rattle.std.proofs.Common.{◌+◌, List, ℕ, subst}
use Rattle.bufr_io.specs.HeldTexts.{PutsOrStops}
use Rattle.bufr_select_engine.proofs.SelectorFacts.{cells_covered, from_lent, picker_kept, ready_kept}
use Rattle.bufr_select_engine.proofs.SelectorFacts.{rows_picked}
use Rattle.bufr_select_engine.proofs.frame_selector.FrameSelector.put_view.Goals as goal

-- the columns of the cells are asked for
pub put_message-requires-clause-covers : goal.put_message-requires-clause-covers
put_message-requires-clause-covers g c = cells_covered c.args.self.now c.requires.ready

-- the rows come from the message
pub returns-clause-puts : goal.returns-clause-puts
returns-clause-puts g c =
    let p = c.args.self.now in
    let m = c.args.found.now.message in
    subst
    (λ (t : List ℕ). PutsOrStops t p.rows (g.W.Sink.writing c.args.writer.now)
    c.put_message.new.rows (g.W.Sink.writing c.put_message.new.writer) c.put_message.result)
    (rows_picked p (p.frames + 1) c.args.place _ m c.requires.ready
    (from_lent p.input (p.frames + 1) c.args.place c.sections-said.result m c.sections-said.ensures))
    c.put_message.ensures.puts

-- the cells have their columns still
pub returns-clause-ready : goal.returns-clause-ready
returns-clause-ready g c =
    ready_kept c.args.self.now c.put_message.new.picker c.put_message.new.rows c.put_message.result
    c.requires.ready c.put_message.ensures.each c.put_message.ensures.asked
    c.put_message.ensures.columns

-- the selection stays
pub returns-clause-keeps : goal.returns-clause-keeps
returns-clause-keeps g c =
    picker_kept c.args.self.now c.put_message.new.picker c.put_message.new.rows
    c.put_message.ensures.each
