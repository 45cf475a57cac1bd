-- The clauses of `select_inputs`: input by input, until one cannot be selected from.
use Rattle.std.proofs.Common.{◌<◌, length, map, arith, refl, slice_set}
use Rattle.std.proofs.lemmas.List.{map-set}
use Rattle.bufr_frame.specs.Streams.{cut}
use Rattle.bufr_io.specs.PassingLaws.{passed}
use Rattle.bufr_io.specs.ReaderLaws.{fresh_next, reach_item}
use Rattle.bufr_select_engine.specs.Selectors.{SelectsInputs, selection_of}
use Rattle.bufr_select_engine.specs.Selects.{Writings}
use Rattle.bufr_select_engine.proofs.EngineFacts.{bounded_next, header_fails, refused_at_most}
use Rattle.bufr_select_engine.proofs.EngineFacts.{begun_heard, begun_ready, through_next, through_none}
use Rattle.bufr_select_engine.proofs.EngineFacts.{begun_held, through_stops}
use Rattle.bufr_select_engine.proofs.SelectedFacts.{refused_few}
use Rattle.bufr_select_engine.proofs.select.select_inputs.Goals as goal

-- the header line is not written
pub returns-in_err-write_header-clause-selects : goal.returns-in_err-write_header-clause-selects
returns-in_err-write_header-clause-selects g c =
    let p = c.args.selector.now in
    let readers = map g.S.Source.reading c.args.inputs.now in
    let w : Writings = record {
      rows = g.W.Sink.writing c.args.out.now.rows;
      refusals = g.E.Sink.writing c.args.out.now.refusals;
    } in
    let w' : Writings = record {
      rows = g.W.Sink.writing c.write_header.new.writer;
      refusals = g.E.Sink.writing c.args.out.now.refusals;
    } in
    passed
    (SelectsInputs (selection_of p) c.args.reads readers readers w w' c.write_header.new.self)
    c.from_residual.result c.in_err-write_header.field-0.0 c.from_residual.ensures.1
    (header_fails (selection_of p) c.args.reads readers p.rows c.write_header.new.self.rows w w'
    c.in_err-write_header.field-0.0 c.requires.none c.requires.unwritten c.requires.rows_work
    c.requires.refusals_work refl c.in_err-write_header.ensures.puts)

-- at first no input was read
pub loop-index-init : goal.loop-index-init
loop-index-init g c =
    let e = c.in_ok-write_header.ensures in
    through_none c.args.reads (map g.S.Source.reading c.args.inputs.now) c.args.selector.now
    c.write_header.new.self
    (record {
      rows = g.W.Sink.writing c.args.out.now.rows;
      refusals = g.E.Sink.writing c.args.out.now.refusals;
    })
    (record {
      rows = g.W.Sink.writing c.write_header.new.writer;
      refusals = g.E.Sink.writing c.args.out.now.refusals;
    })
    c.in_ok-write_header.field-0 c.requires.fresh c.requires.none c.requires.unwritten
    c.requires.heard c.requires.ready c.requires.rows_work c.requires.refusals_work e.works e.held
    e.same refl e.puts

-- the next input was not read before
pub select_input-requires-clause-fresh : goal.select_input-requires-clause-fresh
select_input-requires-clause-fresh g c =
    let inv = c.loop-index.invariant in
    let inside : c.loop-index.index < length c.loop-index.inputs = omega arith in
    fresh_next _ _ _ _ _ c.requires.fresh
    (reach_item g.S.Source.reading _ c.loop-index.inputs inv.streams c.loop-index.index
    c.index-inputs-index.result inv.through inside)

-- the selector begins it as it ended the one before
pub select_input-requires-clause-none : goal.select_input-requires-clause-none
select_input-requires-clause-none g c =
    begun_held c.loop-index.selector c.begin.new.self c.loop-index.index c.begin.ensures
    c.loop-index.invariant.selected.held

pub select_input-requires-clause-ready : goal.select_input-requires-clause-ready
select_input-requires-clause-ready g c =
    begun_ready c.loop-index.selector c.begin.new.self c.loop-index.index c.begin.ensures
    c.loop-index.invariant.selected.ready

pub select_input-requires-clause-heard : goal.select_input-requires-clause-heard
select_input-requires-clause-heard g c =
    begun_heard c.loop-index.selector c.begin.new.self c.loop-index.index _ c.begin.ensures
    c.loop-index.invariant.selected.heard

-- each input gave at most n reads, the last one too
pub returns-in_err-select_input-clause-bounded : goal.returns-in_err-select_input-clause-bounded
returns-in_err-select_input-clause-bounded g c =
    bounded_next c.args.reads (map g.S.Source.reading c.loop-index.inputs) _ c.loop-index.index
    (g.S.Source.reading c.select_input.new.reader) c.loop-index.invariant.bounded
    (map-set g.S.Source.reading c.loop-index.inputs c.loop-index.index c.select_input.new.reader)
    c.in_err-select_input.ensures.bounded

-- selecting ended at an input
pub returns-in_err-select_input-clause-selects : goal.returns-in_err-select_input-clause-selects
returns-in_err-select_input-clause-selects g c =
    let inv = c.loop-index.invariant in
    let s = selection_of c.args.selector.now in
    let inside : c.loop-index.index < length c.loop-index.inputs = omega arith in
    let begin : Writings = record {
      rows = g.W.Sink.writing c.args.out.now.rows;
      refusals = g.E.Sink.writing c.args.out.now.refusals;
    } in
    let mid : Writings = record {
      rows = g.W.Sink.writing c.loop-index.out.rows;
      refusals = g.E.Sink.writing c.loop-index.out.refusals;
    } in
    let now : Writings = record {
      rows = g.W.Sink.writing c.select_input.new.out.rows;
      refusals = g.E.Sink.writing c.select_input.new.out.refusals;
    } in
    passed
    (SelectsInputs s c.args.reads (map g.S.Source.reading c.args.inputs.now)
    (map g.S.Source.reading
    (slice_set c.loop-index.inputs c.loop-index.index c.select_input.new.reader)) begin now
    c.select_input.new.selector)
    c.from_residual-in_err-select_input.result c.in_err-select_input.field-0.0
    c.from_residual-in_err-select_input.ensures.1
    (through_stops s c.args.reads (map g.S.Source.reading c.args.inputs.now)
    (map g.S.Source.reading c.loop-index.inputs) _ begin mid now c.loop-index.selector
    c.begin.new.self c.select_input.new.selector c.loop-index.tally c.loop-index.index _
    (g.S.Source.reading c.select_input.new.reader) c.in_err-select_input.field-0.0 inv
    (reach_item g.S.Source.reading _ c.loop-index.inputs inv.streams c.loop-index.index
    c.index-inputs-index.result inv.through inside)
    (map-set g.S.Source.reading c.loop-index.inputs c.loop-index.index c.select_input.new.reader)
    c.begin.ensures c.in_err-select_input.ensures.selects)

-- the frames of one input more can be counted
pub overflow_add-tally-in-loop-index : goal.overflow_add-tally-in-loop-index
overflow_add-tally-in-loop-index g c =
    let inv = c.loop-index.invariant in
    let selects = c.in_ok-select_input.ensures.selects in
    omega (
      arith,
      inv.few,
      refused_at_most _ _ _ _ _ _ _ _ _ inv,
      selects.3.refused,
      selects.3.few,
      refused_few (selection_of c.begin.new.self) (cut selects.1),
    )

-- the rows of one input more were written
pub loop-index-preserved : goal.loop-index-preserved
loop-index-preserved g c =
    let inv = c.loop-index.invariant in
    let inside : c.loop-index.index < length c.loop-index.inputs = omega arith in
    let begin : Writings = record {
      rows = g.W.Sink.writing c.args.out.now.rows;
      refusals = g.E.Sink.writing c.args.out.now.refusals;
    } in
    let mid : Writings = record {
      rows = g.W.Sink.writing c.loop-index.out.rows;
      refusals = g.E.Sink.writing c.loop-index.out.refusals;
    } in
    let now : Writings = record {
      rows = g.W.Sink.writing c.select_input.new.out.rows;
      refusals = g.E.Sink.writing c.select_input.new.out.refusals;
    } in
    through_next (selection_of c.args.selector.now) c.args.reads
    (map g.S.Source.reading c.args.inputs.now) (map g.S.Source.reading c.loop-index.inputs) _ begin
    mid now c.loop-index.selector c.begin.new.self c.select_input.new.selector c.loop-index.tally
    c.loop-index.index _ (g.S.Source.reading c.select_input.new.reader) c.in_ok-select_input.field-0
    inv
    (reach_item g.S.Source.reading _ c.loop-index.inputs inv.streams c.loop-index.index
    c.index-inputs-index.result inv.through inside)
    (map-set g.S.Source.reading c.loop-index.inputs c.loop-index.index c.select_input.new.reader)
    c.in_ok-select_input.ensures.bounded c.begin.ensures c.in_ok-select_input.ensures.selects
