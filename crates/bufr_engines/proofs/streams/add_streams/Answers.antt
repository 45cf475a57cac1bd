-- Reader by reader, until a read fails.
use Rattle.std.proofs.Common.{◌<◌, ◌^◌, length, map, arith, slice_set}
use Rattle.std.proofs.lemmas.List.{map-set}
use Rattle.bufr_engines.specs.Adds.{AddsStreams}
use Rattle.bufr_io.specs.PassingLaws.{passed}
use Rattle.bufr_engines.proofs.FrameFacts.{refused_at_most}
use Rattle.bufr_engines.proofs.AddedFacts.{since_none}
use Rattle.bufr_io.specs.ReaderLaws.{reach_item, fresh_next}
use Rattle.bufr_engines.proofs.CollectFacts.{added_first, added_next, bounded_next, added_ends}
use Rattle.bufr_engines.proofs.streams.add_streams.Goals as goal

pub loop-index-init : goal.loop-index-init
loop-index-init g c = added_first _ _ _ _ _ c.requires.fresh c.requires.empty

pub take_stream-requires-clause-fresh : goal.take_stream-requires-clause-fresh
take_stream-requires-clause-fresh g c =
    let inv = c.loop-index.invariant in
    let inside : c.loop-index.index < length c.loop-index.readers = omega arith in
    fresh_next _ _ _ _ _ c.requires.fresh
    (reach_item g.S.Source.reading _ c.loop-index.readers inv.streams c.loop-index.index
    c.index-readers-index.result inv.through inside)

pub take_stream-requires-clause-none_taken : goal.take_stream-requires-clause-none_taken
take_stream-requires-clause-none_taken g c =
    let inv = c.loop-index.invariant in
    let few = inv.few in
    let counted = inv.added.frames_are in
    let inside : c.loop-index.index < length c.loop-index.readers = omega arith in
    let fit : c.loop-index.counts.frames < 2 ^ 127 = omega arith in
    since_none c.loop-index.builder c.loop-index.counts fit (refused_at_most _ _ _ _ inv.added)

pub loop-index-preserved : goal.loop-index-preserved
loop-index-preserved g c =
    let inv = c.loop-index.invariant in
    let inside : c.loop-index.index < length c.loop-index.readers = omega arith in
    added_next c.args.builder.now.tables c.args.reads (map g.S.Source.reading c.args.readers.now)
    (map g.S.Source.reading c.loop-index.readers) _
    c.loop-index.builder c.take_stream.new.taker c.loop-index.counts c.take_stream.new.out
    c.loop-index.index _ (g.S.Source.reading c.take_stream.new.reader) c.in_ok-take_stream.field-0
    c.requires.few inv
    (reach_item g.S.Source.reading _ c.loop-index.readers inv.streams c.loop-index.index
    c.index-readers-index.result inv.through inside)
    (map-set g.S.Source.reading c.loop-index.readers c.loop-index.index c.take_stream.new.reader)
    c.in_ok-take_stream.ensures.bounded c.in_ok-take_stream.ensures.takes

pub returns-in_err-take_stream-clause-bounded : goal.returns-in_err-take_stream-clause-bounded
returns-in_err-take_stream-clause-bounded g c =
    bounded_next c.args.reads (map g.S.Source.reading c.loop-index.readers) _ c.loop-index.index
    (g.S.Source.reading c.take_stream.new.reader) c.loop-index.invariant.bounded
    (map-set g.S.Source.reading c.loop-index.readers c.loop-index.index c.take_stream.new.reader)
    c.in_err-take_stream.ensures.bounded

pub returns-in_err-take_stream-clause-adds : goal.returns-in_err-take_stream-clause-adds
returns-in_err-take_stream-clause-adds g c =
    let inv = c.loop-index.invariant in
    let inside : c.loop-index.index < length c.loop-index.readers = omega arith in
    let news = map g.S.Source.reading c.loop-index.readers in
    let olds = map g.S.Source.reading c.args.readers.now in
    passed
    (AddsStreams c.args.builder.now.tables c.args.reads olds
    (map g.S.Source.reading
    (slice_set c.loop-index.readers c.loop-index.index c.take_stream.new.reader))
    c.take_stream.new.taker c.take_stream.new.out)
    c.from_residual.result c.in_err-take_stream.field-0.0 c.from_residual.ensures.1
    (added_ends c.args.builder.now.tables c.args.reads olds news _ _ c.take_stream.new.taker
    c.take_stream.new.out inv.streams c.loop-index.index _
    (g.S.Source.reading c.take_stream.new.reader) c.in_err-take_stream.field-0.0
    (reach_item g.S.Source.reading olds c.loop-index.readers inv.streams c.loop-index.index
    c.index-readers-index.result inv.through inside)
    (map-set g.S.Source.reading c.loop-index.readers c.loop-index.index c.take_stream.new.reader)
    c.in_err-take_stream.ensures.takes)
