-- The text and the counts of the merged archive, or its first octets.
use Rattle.std.proofs.Common.{length, map, sym, subst, Ok, Err}
use Rattle.std.proofs.lemmas.List.{length-map}
use Rattle.bufr_gather.specs.Archives.{ArchiveView}
use Rattle.bufr_engines.specs.Collects.{Merges}
use Rattle.bufr_engines.specs.Parts.{WritesArchive}
use Rattle.bufr_engines.specs.Stacks.{together}
use Rattle.bufr_io.specs.PassingLaws.{passed}
use Rattle.bufr_engines.proofs.CollectFacts.{merges_ok, merges_fails}
use Rattle.bufr_engines.proofs.merge.run_merge.Goals as goal

pub returns-in_err-reports-clause-merges : goal.returns-in_err-reports-clause-merges
returns-in_err-reports-clause-merges g c =
    let olds = map g.S.Source.reading c.args.readers.now in
    let news = map g.S.Source.reading c.merge_readers.new.readers in
    let writer = g.W.Sink.writing c.args.writer.now in
    let now = g.W.Sink.writing c.write_both.new.writer in
    let archive = together c.args.tables.now c.in_ok-texts.texts.items in
    let e = c.in_err-reports.field-0.0 in
    passed (Merges c.args.tables.now c.args.reads olds news writer now)
    c.from_residual-in_err-reports.result e c.from_residual-in_err-reports.ensures.1
    (merges_fails c.args.tables.now c.args.reads olds news writer now archive e
    c.in_ok-texts.ensures.merges
    (subst (λ (a : ArchiveView). WritesArchive a writer now (Err e)) c.in_ok-lowest.ensures.all
    c.in_err-reports.ensures))

pub returns-clause-merges : goal.returns-clause-merges
returns-clause-merges g c =
    let olds = map g.S.Source.reading c.args.readers.now in
    let news = map g.S.Source.reading c.merge_readers.new.readers in
    let writer = g.W.Sink.writing c.args.writer.now in
    let now = g.W.Sink.writing c.write_both.new.writer in
    let archive = together c.args.tables.now c.in_ok-texts.texts.items in
    merges_ok c.args.tables.now c.args.reads olds news writer now archive
    (length c.merge_readers.new.readers) c.in_ok-reports.reports c.in_ok-texts.ensures.merges
    (sym (length-map c.merge_readers.new.readers g.S.Source.reading))
    (subst (λ (a : ArchiveView). WritesArchive a writer now (Ok c.in_ok-reports.reports))
    c.in_ok-lowest.ensures.all c.in_ok-reports.ensures)
