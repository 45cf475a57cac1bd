-- Reader by reader, until one is no archive or a read fails.
use Rattle.std.proofs.Common.{◌<◌, length, map, arith, slice_set, Result, Vec, Global, ap, ◌∙◌}
use Rattle.std.proofs.lemmas.List.{map-set}
use Rattle.bufr_base.specs.Answers.{result_map}
use Rattle.bufr_gather.specs.Archives.{ArchiveView, merged}
use Rattle.bufr_io.specs.declared.fault.ToolFault.{ToolFault}
use Rattle.bufr_engines.specs.Adds.{MergesReaders}
use Rattle.bufr_engines.specs.Stacks.{together}
use Rattle.bufr_io.specs.PassingLaws.{passed}
use Rattle.bufr_io.specs.ReaderLaws.{reach_item, fresh_next}
use Rattle.bufr_engines.proofs.CollectFacts.{merged_first, merged_next, bounded_next, merged_ends}
use Rattle.bufr_engines.proofs.StackFacts.{none_under, one_under, put_above_is}
use Rattle.bufr_engines.proofs.merge.merge_readers.Goals as goal

pub loop-index-init : goal.loop-index-init
loop-index-init g c = (
  none_under c.args.tables.now c.new-texts.result.items c.new-texts.ensures.items,
  merged_first _ _ _ _ c.requires.fresh
      (ap (together c.args.tables.now) c.new-texts.ensures.items),
)

pub settle-requires : goal.settle-requires
settle-requires g c = c.loop-index.invariant.0

pub read_archive-requires-clause-fresh : goal.read_archive-requires-clause-fresh
read_archive-requires-clause-fresh g c =
    let inv = c.loop-index.invariant.1 in
    let inside : c.loop-index.index < length c.loop-index.readers = omega arith in
    fresh_next _ _ _ _ _ c.requires.fresh
    (reach_item g.S.Source.reading _ c.loop-index.readers inv.texts c.loop-index.index
    c.index-readers-index.result inv.through inside)

pub loop-index-preserved : goal.loop-index-preserved
loop-index-preserved g c =
    let inv = c.loop-index.invariant.1 in
    let inside : c.loop-index.index < length c.loop-index.readers = omega arith in
    let tables = c.args.tables.now in
    let archive : ArchiveView = c.in_ok-archive.archive in (
      one_under tables c.settle.new.texts.items c.push.new.self.items archive
          c.settle.ensures.under (ap (λ (a : ArchiveView). a.tables) c.in_ok-archive.ensures.reads.3.3)
          c.in-Ok-push.ensures.items,
      merged_next tables c.args.reads (map g.S.Source.reading c.args.readers.now)
          (map g.S.Source.reading c.loop-index.readers) _
          (together tables c.loop-index.texts.items) _ (together tables c.push.new.self.items)
          c.loop-index.index _
          (g.S.Source.reading c.read_archive.new.reader)
          inv
          (reach_item g.S.Source.reading _ c.loop-index.readers inv.texts c.loop-index.index
          c.index-readers-index.result inv.through inside)
          (map-set g.S.Source.reading c.loop-index.readers c.loop-index.index
          c.read_archive.new.reader)
          c.in_ok-archive.ensures.bounded
          c.in_ok-archive.ensures.reads
          (put_above_is tables c.settle.new.texts.items c.push.new.self.items archive
          c.in-Ok-push.ensures.items
          ∙ ap (λ (a : ArchiveView). merged a archive) c.in-Ok.ensures.ok),
    )

pub returns-in_err-archive-clause-bounded : goal.returns-in_err-archive-clause-bounded
returns-in_err-archive-clause-bounded g c =
    bounded_next c.args.reads (map g.S.Source.reading c.loop-index.readers) _ c.loop-index.index
    (g.S.Source.reading c.read_archive.new.reader) c.loop-index.invariant.1.bounded
    (map-set g.S.Source.reading c.loop-index.readers c.loop-index.index c.read_archive.new.reader)
    c.in_err-archive.ensures.bounded

pub returns-in_default-push-clause-bounded : goal.returns-in_default-push-clause-bounded
returns-in_default-push-clause-bounded g c =
    bounded_next c.args.reads (map g.S.Source.reading c.loop-index.readers) _ c.loop-index.index
    (g.S.Source.reading c.read_archive.new.reader) c.loop-index.invariant.1.bounded
    (map-set g.S.Source.reading c.loop-index.readers c.loop-index.index c.read_archive.new.reader)
    c.in_ok-archive.ensures.bounded

pub returns-in_err-archive-clause-merges : goal.returns-in_err-archive-clause-merges
returns-in_err-archive-clause-merges g c =
    let inv = c.loop-index.invariant.1 in
    let inside : c.loop-index.index < length c.loop-index.readers = omega arith in
    let news = map g.S.Source.reading c.loop-index.readers in
    let olds = map g.S.Source.reading c.args.readers.now in
    passed
    (λ (r : Result (Vec ArchiveView Global) ToolFault). MergesReaders c.args.tables.now c.args.reads
    olds
    (map g.S.Source.reading
    (slice_set c.loop-index.readers c.loop-index.index c.read_archive.new.reader))
    (result_map (λ (texts : Vec ArchiveView Global). together c.args.tables.now texts.items) r))
    c.from_residual.result c.in_err-archive.field-0.0 c.from_residual.ensures.1
    (merged_ends c.args.tables.now c.args.reads olds news _
    (together c.args.tables.now c.loop-index.texts.items) c.loop-index.index _
    (g.S.Source.reading c.read_archive.new.reader) c.in_err-archive.field-0.0
    inv
    (reach_item g.S.Source.reading olds c.loop-index.readers inv.texts c.loop-index.index
    c.index-readers-index.result inv.through inside)
    (map-set g.S.Source.reading c.loop-index.readers c.loop-index.index c.read_archive.new.reader)
    c.in_err-archive.ensures.reads)

pub returns-clause-bounded : goal.returns-clause-bounded
returns-clause-bounded g c = c.loop-index.invariant.1.bounded

pub returns-clause-under : goal.returns-clause-under
returns-clause-under g c = c.loop-index.invariant.0
