-- Entry by entry, the loop hands on the text of the archive that the streams make.
use Rattle.std.proofs.Common.{◌<◌, ℕ, List, Ok, Err, length, map, refl, ap, subst, ◌∙◌, arith}
use Rattle.std.proofs.lemmas.List.{length-map}
use Rattle.bufr_bits.specs.Devices.{Writing}
use Rattle.bufr_tables.specs.Entries.{Entries}
use Rattle.bufr_gather.specs.Archives.{ArchiveView}
use Rattle.bufr_entries.specs.declared.entry.Entry.{Entry}
use Rattle.bufr_io.specs.Engines.{WritesAfter}
use Rattle.bufr_engines.specs.declared.parts.PendingOctets.{PendingOctets}
use Rattle.bufr_engines.specs.Adds.{AddsStreams}
use Rattle.bufr_engines.specs.Collects.{Collects}
use Rattle.bufr_engines.specs.Parts.{joined}
use Rattle.bufr_io.specs.PassingLaws.{passed}
use Rattle.bufr_engines.proofs.CollectFacts.{collects_ok, collects_fails}
use Rattle.bufr_engines.proofs.HandOnFacts.{joined_text, handed_first, handed_next, handed_fails}
use Rattle.bufr_engines.proofs.HandOnFacts.{handed_all}
use Rattle.bufr_engines.proofs.add.run_add.Goals as goal

pub loop-octets-init : goal.loop-octets-init
loop-octets-init g c =
    let writer : Writing = g.W.Sink.writing c.args.writer.now in
    let part : PendingOctets = record { octets = c.clear.new.self; written = 0 } in
    let is = ap (λ (xs : List (List ℕ)). length xs) c.lent-left.ensures in
    let few : length c.lent-left.result < 18446744073709551616 =
    omega (arith, c.len-reports.ensures, c.len-reports.type_inv, is) in
    handed_first writer part c.lent-left.result c.requires.works refl c.clear.ensures.items few

pub loop-octets-preserved : goal.loop-octets-preserved
loop-octets-preserved g c =
    handed_next (g.W.Sink.writing c.args.writer.now) (g.W.Sink.writing c.loop-octets.writer)
    (g.W.Sink.writing c.hand_on.new.writer) c.loop-octets.pending c.hand_on.new.pending
    c.lent-left.result c.loop-octets.left c.next.new.self c.in-Some.octets.now
    c.loop-octets.invariant c.in-Some.ensures.taken c.in_ok-hand_on.ensures.hands
    c.in_ok-hand_on.ensures.short

pub returns-in_err-hand_on-clause-adds : goal.returns-in_err-hand_on-clause-adds
returns-in_err-hand_on-clause-adds g c =
    let olds = map g.S.Source.reading c.args.readers.now in
    let news = map g.S.Source.reading c.add_streams.new.readers in
    let writer = g.W.Sink.writing c.args.writer.now in
    let same = ap (λ (a : ArchiveView). a.tables) c.new-builder.ensures in
    let e = c.in_err-hand_on.field-0.0 in
    passed
    (Collects c.args.tables.now c.args.reads olds news writer
    (g.W.Sink.writing c.hand_on.new.writer))
    c.from_residual-in_err-hand_on.result e c.from_residual-in_err-hand_on.ensures.1
    (collects_fails c.args.tables.now c.args.reads olds news writer
    (g.W.Sink.writing c.hand_on.new.writer) c.add_streams.new.builder
    c.add_streams.new.counts _ c.in_ok-add_streams.field-0 e
    (subst (λ
    (t : Entries). AddsStreams t c.args.reads olds news c.add_streams.new.builder
    c.add_streams.new.counts (Ok c.in_ok-add_streams.field-0)) same
    c.in_ok-add_streams.ensures.adds)
    (ap joined (c.lent-left.ensures ∙ c.in_ok-kept.ensures)
    ∙ joined_text c.add_streams.new.builder.entries)
    (handed_fails writer (g.W.Sink.writing c.loop-octets.writer)
    (g.W.Sink.writing c.hand_on.new.writer) c.loop-octets.pending c.lent-left.result
    c.loop-octets.left c.next.new.self c.in-Some.octets.now e c.loop-octets.invariant
    c.in-Some.ensures.taken c.in_err-hand_on.ensures.hands))

pub returns-in_err-write_out-clause-adds : goal.returns-in_err-write_out-clause-adds
returns-in_err-write_out-clause-adds g c =
    let olds = map g.S.Source.reading c.args.readers.now in
    let news = map g.S.Source.reading c.add_streams.new.readers in
    let writer = g.W.Sink.writing c.args.writer.now in
    let mid = g.W.Sink.writing c.loop-octets.writer in
    let now = g.W.Sink.writing c.write_out.new.writer in
    let part = c.loop-octets.pending in
    let same = ap (λ (a : ArchiveView). a.tables) c.new-builder.ensures in
    let e = c.in_err-write_out.field-0.0 in
    passed (Collects c.args.tables.now c.args.reads olds news writer now)
    c.from_residual-in_err-write_out.result e c.from_residual-in_err-write_out.ensures.1
    (collects_fails c.args.tables.now c.args.reads olds news writer now c.add_streams.new.builder
    c.add_streams.new.counts _ c.in_ok-add_streams.field-0 e
    (subst (λ
    (t : Entries). AddsStreams t c.args.reads olds news c.add_streams.new.builder
    c.add_streams.new.counts (Ok c.in_ok-add_streams.field-0)) same
    c.in_ok-add_streams.ensures.adds)
    (ap joined (c.lent-left.ensures ∙ c.in_ok-kept.ensures)
    ∙ joined_text c.add_streams.new.builder.entries)
    (handed_all writer mid now part c.lent-left.result c.loop-octets.left (Err e)
    c.loop-octets.invariant c.in_default.ensures.none
    (subst (λ (xs : List ℕ). WritesAfter part.written xs mid now (Err e)) c.deref.ensures.value
    c.in_err-write_out.ensures)))

pub returns-clause-adds : goal.returns-clause-adds
returns-clause-adds g c =
    let olds = map g.S.Source.reading c.args.readers.now in
    let news = map g.S.Source.reading c.add_streams.new.readers in
    let writer = g.W.Sink.writing c.args.writer.now in
    let mid = g.W.Sink.writing c.loop-octets.writer in
    let now = g.W.Sink.writing c.write_out.new.writer in
    let part = c.loop-octets.pending in
    let same = ap (λ (a : ArchiveView). a.tables) c.new-builder.ensures in
    let done = c.in_ok-write_out.field-0 in
    collects_ok c.args.tables.now c.args.reads olds news writer now c.add_streams.new.builder
    c.add_streams.new.counts _ _ c.in_ok-add_streams.field-0
    (subst (λ
    (t : Entries). AddsStreams t c.args.reads olds news c.add_streams.new.builder
    c.add_streams.new.counts (Ok c.in_ok-add_streams.field-0)) same
    c.in_ok-add_streams.ensures.adds)
    (ap joined (c.lent-left.ensures ∙ c.in_ok-kept.ensures)
    ∙ joined_text c.add_streams.new.builder.entries)
    (c.len-reports.ensures
    ∙ ap (λ (xs : List (List ℕ)). length xs) c.in_ok-kept.ensures
    ∙ length-map c.add_streams.new.builder.entries (λ (e : Entry). e.bytes))
    (handed_all writer mid now part c.lent-left.result c.loop-octets.left (Ok done)
    c.loop-octets.invariant c.in_default.ensures.none
    (subst (λ (xs : List ℕ). WritesAfter part.written xs mid now (Ok done)) c.deref.ensures.value
    c.in_ok-write_out.ensures))
