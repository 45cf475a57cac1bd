-- The clause `selects` of `select_input`: the input was taken in to its end, or that ended early.
use Rattle.std.proofs.Common.{◌≤◌, ◌^◌, length, arith, refl}
use Rattle.bufr_io.specs.PassingLaws.{passed}
use Rattle.bufr_select_engine.specs.Selectors.{SelectsInput}
use Rattle.bufr_select_engine.specs.Selects.{Writings}
use Rattle.bufr_select_engine.specs.declared.frame_selector.FrameSelector.{FrameSelector}
use Rattle.bufr_select_engine.proofs.SelectedFacts.{input_early, input_whole, selected_none}
use Rattle.bufr_select_engine.proofs.frames.select_input.Goals as goal

-- at first no frame is selected
pub take_stream-requires-clause-none_taken : goal.take_stream-requires-clause-none_taken
take_stream-requires-clause-none_taken g c =
    selected_none c.args.selector.now _ c.requires.frames c.requires.refused c.requires.ready
    c.requires.heard

-- the input was not taken in to its end
pub returns-in_err-take_stream-clause-selects : goal.returns-in_err-take_stream-clause-selects
returns-in_err-take_stream-clause-selects g c =
    let begin : Writings = record {
      rows = g.W.Sink.writing c.args.out.now.rows;
      refusals = g.E.Sink.writing c.args.out.now.refusals;
    } in
    let now : Writings = record {
      rows = g.W.Sink.writing c.take_stream.new.out.rows;
      refusals = g.E.Sink.writing c.take_stream.new.out.refusals;
    } in
    passed
    (SelectsInput c.args.reads c.args.selector.now c.take_stream.new.taker
    (g.S.Source.reading c.args.reader.now) (g.S.Source.reading c.take_stream.new.reader) begin now)
    c.from_residual.result c.in_err-take_stream.field-0.0 c.from_residual.ensures.1
    (input_early c.args.reads (g.S.Source.reading c.args.reader.now)
    (g.S.Source.reading c.take_stream.new.reader) c.args.selector.now c.take_stream.new.taker begin
    now c.in_err-take_stream.field-0.0 c.in_err-take_stream.ensures.takes)

-- the writer works at its end
pub write-requires : goal.write-requires
write-requires g c = record { works = c.in_ok-take_stream.ensures.takes.4.heard.works }

-- it was, and then the rows that wait are written
pub returns-clause-selects : goal.returns-clause-selects
returns-clause-selects g c =
    let t = c.in_ok-take_stream.ensures.takes in
    let few : length t.1 ≤ 2 ^ 48 = omega (arith, t.6, c.requires.few) in
    let begin : Writings = record {
      rows = g.W.Sink.writing c.args.out.now.rows;
      refusals = g.E.Sink.writing c.args.out.now.refusals;
    } in
    let mid : Writings = record {
      rows = g.W.Sink.writing c.take_stream.new.out.rows;
      refusals = g.E.Sink.writing c.take_stream.new.out.refusals;
    } in
    let now : Writings = record {
      rows = g.W.Sink.writing c.write.new.writer;
      refusals = g.E.Sink.writing c.take_stream.new.out.refusals;
    } in
    let p' : FrameSelector = record c.take_stream.new.taker { rows = c.write.new.self } in
    input_whole c.args.reads (g.S.Source.reading c.args.reader.now)
    (g.S.Source.reading c.take_stream.new.reader) c.args.selector.now c.take_stream.new.taker p' begin
    mid now t.1 c.write.result t.0 t.2 t.3 t.4 few c.write.ensures.writes refl refl
