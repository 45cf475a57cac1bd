-- The clauses of `take_frame`: the rows and the refusal of the frame were put, or that stopped.
use Rattle.std.proofs.Common.{◌∷◌, [], refl, arith, length-append}
use Rattle.bufr_io.specs.Taking.{frame_at}
use Rattle.bufr_select_engine.specs.Selectors.{selection_of}
use Rattle.bufr_select_engine.specs.Selects.{Writings}
use Rattle.bufr_select_engine.proofs.SelectedFacts.{refused_few, selected_more, selecting_stopped}
use Rattle.bufr_select_engine.proofs.frames.FrameSelectorTakesFramesOutputs.take_frame.Goals as goal

-- one frame more can be counted
pub take-requires-clause-frames : goal.take-requires-clause-frames
take-requires-clause-frames g c =
    let s = c.requires in
    let frame = frame_at c.args.place c.args.octets.now in
    omega (arith, s.3.frames_are, s.4.count, length-append s.2 (frame ∷ []))

-- and one refusal more
pub take-requires-clause-refused : goal.take-requires-clause-refused
take-requires-clause-refused g c =
    let s = c.requires in
    let frame = frame_at c.args.place c.args.octets.now in
    omega (
      arith,
      s.3.refused_are,
      refused_few (selection_of s.0) s.2,
      s.4.count,
      length-append s.2 (frame ∷ []),
    )

pub take-requires-clause-ready : goal.take-requires-clause-ready
take-requires-clause-ready g c = c.requires.3.ready

pub take-requires-clause-heard : goal.take-requires-clause-heard
take-requires-clause-heard g c = c.requires.3.heard

-- one frame more is selected
pub returns-in-Ok-clause-taken : goal.returns-in-Ok-clause-taken
returns-in-Ok-clause-taken g c first begin frames h =
    let begin' : Writings = record {
      rows = g.W.Sink.writing begin.rows;
      refusals = g.E.Sink.writing begin.refusals;
    } in
    selected_more first begin' c.args.self.now c.take.new.self _ _ frames
    (frame_at c.args.place c.args.octets.now) c.in-Ok.field-0 h c.in-Ok.ensures.takes
    c.in-Ok.ensures.keeps

-- the writer works if memory ran out
pub stop-requires : goal.stop-requires
stop-requires g c = record { works = c.in-Err.ensures.takes.0.0 }

-- taking it stopped
pub returns-in-Err-clause-stopped : goal.returns-in-Err-clause-stopped
returns-in-Err-clause-stopped g c first begin frames h =
    let begin' : Writings = record {
      rows = g.W.Sink.writing begin.rows;
      refusals = g.E.Sink.writing begin.refusals;
    } in
    let now : Writings = record {
      rows = g.W.Sink.writing c.args.out.now.rows;
      refusals = g.E.Sink.writing c.args.out.now.refusals;
    } in
    let now' : Writings = record {
      rows = g.W.Sink.writing c.take.new.out.rows;
      refusals = g.E.Sink.writing c.take.new.out.refusals;
    } in
    let now'' : Writings = record {
      rows = g.W.Sink.writing c.stop.new.writer;
      refusals = g.E.Sink.writing c.take.new.out.refusals;
    } in
    selecting_stopped first begin' c.args.self.now c.take.new.self c.stop.new.self now now' now'' frames
    (frame_at c.args.place c.args.octets.now) c.in-Err.fault c.stop.result h c.in-Err.ensures.takes
    c.stop.ensures.unheard refl c.stop.ensures.is_stop c.stop.ensures.stops
