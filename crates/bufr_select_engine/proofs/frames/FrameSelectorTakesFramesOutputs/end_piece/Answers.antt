-- The clauses of `end_piece`: the rows that wait were written, or the writer failed.
use Rattle.std.proofs.Common.{refl}
use Rattle.bufr_select_engine.specs.Selects.{Writings}
use Rattle.bufr_select_engine.specs.declared.frame_selector.FrameSelector.{FrameSelector}
use Rattle.bufr_select_engine.proofs.SelectedFacts.{piece_stopped, piece_taken}
use Rattle.bufr_select_engine.proofs.SelectorFacts.{written_none}
use Rattle.bufr_select_engine.proofs.frames.FrameSelectorTakesFramesOutputs.end_piece.Goals as goal

-- the writer works
pub write-requires : goal.write-requires
write-requires g c = record { works = c.requires.3.heard.works }

-- the frames are selected still
pub returns-clause-taken : goal.returns-clause-taken
returns-clause-taken g c =
    let p' : FrameSelector = record c.args.self.now { rows = c.write.new.self } in
    let now : Writings = record {
      rows = g.W.Sink.writing c.args.out.now.rows;
      refusals = g.E.Sink.writing c.args.out.now.refusals;
    } in
    let now' : Writings = record {
      rows = g.W.Sink.writing c.write.new.writer;
      refusals = g.E.Sink.writing c.args.out.now.refusals;
    } in
    piece_taken
    (λ out. record { rows = g.W.Sink.writing out.rows; refusals = g.E.Sink.writing out.refusals })
    c.args.self.now p' now now' c.write.result c.write.ensures.writes refl refl

-- no row waits
pub returns-clause-none : goal.returns-clause-none
returns-clause-none g c =
    written_none c.args.self.now.rows c.write.new.self (g.W.Sink.writing c.args.out.now.rows)
    (g.W.Sink.writing c.write.new.writer) c.write.result c.write.ensures.writes

-- or the writer failed
pub returns-clause-stopped : goal.returns-clause-stopped
returns-clause-stopped g c =
    let p' : FrameSelector = record c.args.self.now { rows = c.write.new.self } in
    let now : Writings = record {
      rows = g.W.Sink.writing c.args.out.now.rows;
      refusals = g.E.Sink.writing c.args.out.now.refusals;
    } in
    let now' : Writings = record {
      rows = g.W.Sink.writing c.write.new.writer;
      refusals = g.E.Sink.writing c.args.out.now.refusals;
    } in
    piece_stopped
    (λ out. record { rows = g.W.Sink.writing out.rows; refusals = g.E.Sink.writing out.refusals })
    c.args.self.now p' now now' c.write.result c.write.ensures.writes refl refl
