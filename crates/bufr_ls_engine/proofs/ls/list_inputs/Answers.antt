-- The clauses of `list_inputs`: input by input, until one cannot be listed.
use Rattle.std.proofs.Common.{◌<◌, length, map, arith, refl, slice_set}
use Rattle.std.proofs.lemmas.List.{map-set}
use Rattle.bufr_frame.specs.Streams.{cut}
use Rattle.bufr_ls_engine.specs.Listers.{ListsInputs}
use Rattle.bufr_io.specs.PassingLaws.{passed}
use Rattle.bufr_ls_engine.proofs.EngineFacts.{bounded_next, header_fails, refused_at_most}
use Rattle.bufr_ls_engine.proofs.EngineFacts.{through_next, through_none, through_stops}
use Rattle.bufr_ls_engine.proofs.ListingFacts.{refused_few}
use Rattle.bufr_io.specs.ReaderLaws.{fresh_next, reach_item}
use Rattle.bufr_ls_engine.proofs.ls.list_inputs.Goals as goal

-- the header line is not written
pub returns-in_err-write_header-clause-lists : goal.returns-in_err-write_header-clause-lists
returns-in_err-write_header-clause-lists g c =
    passed
    (ListsInputs c.args.lister.now.columns.now c.args.reads
    (map g.S.Source.reading c.args.inputs.now) (map g.S.Source.reading c.args.inputs.now)
    (g.W.Sink.writing c.args.writer.now) (g.W.Sink.writing c.write_header.new.writer)
    c.write_header.new.self)
    c.from_residual.result c.in_err-write_header.field-0.0 c.from_residual.ensures.1
    (header_fails c.args.lister.now.columns.now c.args.reads
    (map g.S.Source.reading c.args.inputs.now) c.args.lister.now c.write_header.new.self
    (g.W.Sink.writing c.args.writer.now) (g.W.Sink.writing c.write_header.new.writer)
    c.in_err-write_header.field-0.0 refl c.requires.unwritten c.in_err-write_header.ensures.writes)

-- at first no input was read
pub loop-index-init : goal.loop-index-init
loop-index-init g c =
    through_none c.args.lister.now.columns.now c.args.reads
    (map g.S.Source.reading c.args.inputs.now) c.args.lister.now c.write_header.new.self
    (g.W.Sink.writing c.args.writer.now) (g.W.Sink.writing c.write_header.new.writer)
    c.in_ok-write_header.field-0 c.requires.fresh refl c.requires.unwritten
    c.in_ok-write_header.ensures.keeps.columns c.in_ok-write_header.ensures.writes

-- the next input was not read before
pub list_input-requires-clause-fresh : goal.list_input-requires-clause-fresh
list_input-requires-clause-fresh g c =
    let inv = c.loop-index.invariant in
    let inside : c.loop-index.index < length c.loop-index.inputs = omega arith in
    fresh_next _ _ _ _ _ c.requires.fresh
    (reach_item g.S.Source.reading _ c.loop-index.inputs inv.streams c.loop-index.index
    c.index-inputs-index.result inv.through inside)

-- each input gave at most n reads, the last one too
pub returns-in_err-list_input-clause-bounded : goal.returns-in_err-list_input-clause-bounded
returns-in_err-list_input-clause-bounded g c =
    bounded_next c.args.reads (map g.S.Source.reading c.loop-index.inputs) _ c.loop-index.index
    (g.S.Source.reading c.list_input.new.reader) c.loop-index.invariant.bounded
    (map-set g.S.Source.reading c.loop-index.inputs c.loop-index.index c.list_input.new.reader)
    c.in_err-list_input.ensures.bounded

-- listing ended at an input
pub returns-in_err-list_input-clause-lists : goal.returns-in_err-list_input-clause-lists
returns-in_err-list_input-clause-lists g c =
    let inv = c.loop-index.invariant in
    let inside : c.loop-index.index < length c.loop-index.inputs = omega arith in
    passed
    (ListsInputs c.args.lister.now.columns.now c.args.reads
    (map g.S.Source.reading c.args.inputs.now)
    (map g.S.Source.reading
    (slice_set c.loop-index.inputs c.loop-index.index c.list_input.new.reader))
    (g.W.Sink.writing c.args.writer.now) (g.W.Sink.writing c.list_input.new.writer)
    c.list_input.new.lister)
    c.from_residual-in_err-list_input.result c.in_err-list_input.field-0.0
    c.from_residual-in_err-list_input.ensures.1
    (through_stops c.args.lister.now.columns.now c.args.reads
    (map g.S.Source.reading c.args.inputs.now) (map g.S.Source.reading c.loop-index.inputs) _
    (g.W.Sink.writing c.args.writer.now) (g.W.Sink.writing c.loop-index.writer)
    (g.W.Sink.writing c.list_input.new.writer) c.loop-index.lister c.begin.new.self
    c.list_input.new.lister
    c.loop-index.tally c.loop-index.index _ (g.S.Source.reading c.list_input.new.reader)
    c.in_err-list_input.field-0.0 inv
    (reach_item g.S.Source.reading _ c.loop-index.inputs inv.streams c.loop-index.index
    c.index-inputs-index.result inv.through inside)
    (map-set g.S.Source.reading c.loop-index.inputs c.loop-index.index c.list_input.new.reader)
    c.begin.ensures c.in_err-list_input.ensures.lists)

-- the refusals of one input more can be counted
pub overflow_add-tally-in-loop-index : goal.overflow_add-tally-in-loop-index
overflow_add-tally-in-loop-index g c =
    let inv = c.loop-index.invariant in
    let lists = c.in_ok-list_input.ensures.lists in
    omega (
      arith,
      inv.few,
      refused_at_most _ _ _ _ _ _ _ _ _ inv,
      lists.3.refused,
      lists.3.few,
      refused_few (cut lists.1),
    )

-- the rows of one input more were written
pub loop-index-preserved : goal.loop-index-preserved
loop-index-preserved g c =
    let inv = c.loop-index.invariant in
    let inside : c.loop-index.index < length c.loop-index.inputs = omega arith in
    through_next c.args.lister.now.columns.now c.args.reads
    (map g.S.Source.reading c.args.inputs.now) (map g.S.Source.reading c.loop-index.inputs) _
    (g.W.Sink.writing c.args.writer.now) (g.W.Sink.writing c.loop-index.writer)
    (g.W.Sink.writing c.list_input.new.writer) c.loop-index.lister c.begin.new.self
    c.list_input.new.lister
    c.loop-index.tally c.loop-index.index _ (g.S.Source.reading c.list_input.new.reader)
    c.in_ok-list_input.field-0 inv
    (reach_item g.S.Source.reading _ c.loop-index.inputs inv.streams c.loop-index.index
    c.index-inputs-index.result inv.through inside)
    (map-set g.S.Source.reading c.loop-index.inputs c.loop-index.index c.list_input.new.reader)
    c.in_ok-list_input.ensures.bounded c.begin.ensures c.in_ok-list_input.ensures.lists
