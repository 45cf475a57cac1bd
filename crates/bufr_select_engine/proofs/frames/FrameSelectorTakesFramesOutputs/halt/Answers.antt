-- The clause of `halt`: the rows that wait were written, or the writer failed.
use Rattle.std.proofs.Common.{refl}
use Rattle.bufr_select_engine.specs.Selects.{Writings}
use Rattle.bufr_select_engine.proofs.SelectedFacts.{selecting_halted}
use Rattle.bufr_select_engine.proofs.frames.FrameSelectorTakesFramesOutputs.halt.Goals as goal

-- the writer works
pub stop-requires : goal.stop-requires
stop-requires g c = record { works = c.requires.3.heard.works }

-- memory ran out after some frames
pub returns : goal.returns
returns g c first begin frames h =
    let begin' : Writings = record {
      rows = g.W.Sink.writing begin.rows;
      refusals = g.E.Sink.writing begin.refusals;
    } in
    let now : Writings = record {
      rows = g.W.Sink.writing c.args.out.now.rows;
      refusals = g.E.Sink.writing c.args.out.now.refusals;
    } in
    let now' : Writings = record {
      rows = g.W.Sink.writing c.stop.new.writer;
      refusals = g.E.Sink.writing c.args.out.now.refusals;
    } in
    selecting_halted first begin' c.args.self.now c.stop.new.self now now' frames c.stop.result h
    c.stop.ensures.unheard refl c.stop.ensures.is_stop c.stop.ensures.stops
