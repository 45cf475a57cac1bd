-- The clauses of `take`: the frame was taken and counts, or that stopped.
use Rattle.bufr_io.specs.PassingLaws.{passed}
use Rattle.bufr_io.specs.Taking.{frame_at}
use Rattle.bufr_select_engine.specs.Selectors.{CountsFrame}
use Rattle.bufr_select_engine.specs.Selects.{Writings}
use Rattle.bufr_select_engine.proofs.SelectorFacts.{counts_frame}
use Rattle.bufr_select_engine.proofs.frame_selector.FrameSelector.take.Goals as goal

-- the frame counts
pub returns-clause-takes : goal.returns-clause-takes
returns-clause-takes g c =
    let e = c.in_ok-refused.ensures in
    counts_frame c.args.self.now c.put_frame.new.self (frame_at c.args.place c.args.octets.now) _ _
    c.in_ok-refused.refused c.from.result tt c.from.ensures e.takes e.frames e.refused

-- taking it stopped
pub returns-in_err-refused-clause-takes : goal.returns-in_err-refused-clause-takes
returns-in_err-refused-clause-takes g c =
    let w : Writings = record {
      rows = g.W.Sink.writing c.args.out.now.rows;
      refusals = g.E.Sink.writing c.args.out.now.refusals;
    } in
    let w' : Writings = record {
      rows = g.W.Sink.writing c.put_frame.new.out.rows;
      refusals = g.E.Sink.writing c.put_frame.new.out.refusals;
    } in
    passed
    (CountsFrame c.args.self.now (frame_at c.args.place c.args.octets.now) w c.put_frame.new.self w')
    c.from_residual.result c.in_err-refused.field-0.0 c.from_residual.ensures.1
    c.in_err-refused.ensures.takes

-- what is selected stays
pub returns-clause-keeps : goal.returns-clause-keeps
returns-clause-keeps g c =
    let keeps = c.in_ok-refused.ensures.keeps in
    record { selection = keeps.selection; input = keeps.input }
