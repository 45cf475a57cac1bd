-- Report by report, until memory runs out or none is left.
use Rattle.std.proofs.Common.{◌≡◌, ◌≤◌, ◌∙◌, ap, subst, length, arith, rules, Ok}
use Rattle.std.specs.Prelude.{IfOk}
use Rattle.bufr_base.specs.Answers.{Gives}
use Rattle.bufr_message.specs.Messages.{message_of, Spells}
use Rattle.std.proofs.lemmas.List.{length-map, take_all}
use Rattle.bufr_sections.specs.declared.message.Decoded.{Decoded}
use Rattle.bufr_message.specs.Reports.{report_of, reports_of}
use Rattle.bufr_entries.specs.Entries.{kept}
use Rattle.bufr_entries.specs.Orders.{kept-kept}
use Rattle.bufr_gather.specs.Archives.{ArchiveView, IsKept, taken_in}
use Rattle.bufr_gather.specs.ReportEntries.{spelt_entry, spelt_entries, report_entries}
use Rattle.bufr_gather.specs.TakenLaws.{taken_more}
use Rattle.bufr_gather.proofs.AddFacts.{adds_first, builder_adds}
use Rattle.bufr_gather.proofs.ReportFacts.{spelt_are_entries}
use Rattle.bufr_gather.proofs.builder.ArchiveBuilder.add_message.Goals as goal

number : (d : Decoded) → length (spelt_entries (reports_of d.message)) ≡ length d.message.subsets
number d =
    length-map (reports_of d.message) spelt_entry ∙ length-map d.message.subsets (report_of d.message)

pub returns-in-Err-OutOfMemory : goal.returns-in-Err-OutOfMemory
returns-in-Err-OutOfMemory c =
    let start : ArchiveView = record {
      tables = c.read-read.new.self;
      entries = kept c.self.inside.entries;
    } in
    let same : IsKept start = kept-kept c.self.inside.entries in
    search rules

pub loop-index-init : goal.loop-index-init
loop-index-init c =
    let start : ArchiveView = record {
      tables = c.read-read.new.self;
      entries = kept c.self.inside.entries;
    } in
    let same : IsKept start = kept-kept c.self.inside.entries in
    search rules

pub loop-index-preserved : goal.loop-index-preserved
loop-index-preserved c =
    let start : ArchiveView = record {
      tables = c.read-read.new.self;
      entries = kept c.self.inside.entries;
    } in
    let all = number c.in-Ok.view in
    taken_more start c.loop-index.self c.add_one.new.self
    (spelt_entries (reports_of c.in-Ok.view.message)) c.loop-index.index
    (omega (arith, c.loop-index-test.true, c.count-index-end.ensures, all)) c.loop-index.invariant
    c.in-Ok-add_one.ensures.ok

pub returns-in_default : goal.returns-in_default
returns-in_default c =
    let tables = c.self.inside.message_reader in
    let view = c.in-Ok.view in
    let told : message_of tables c.args.octets.now ≡ Ok view =
    subst (λ r. Gives (λ d. d) r (message_of tables c.args.octets.now)) c.in-Ok.is
    c.read-read.ensures.exact in
    let own : spelt_entries (reports_of view.message)
    ≡ report_entries tables (reports_of view.message) =
    spelt_are_entries c.written_messages_are_spelt.ensures.only
    c.canonical_messages_are_own.ensures tables (reports_of view.message)
    (c.reports_have_canonical_messages.ensures tables view.message c.args.octets.now
    view.slack_octets (subst (λ r. IfOk r (λ d. Spells tables d.message c.args.octets.now d.slack_octets)) c.in-Ok.is c.read-read.ensures.found)) in
    adds_first tables c.read-read.new.self (kept c.self.inside.entries) c.args.self.now
    c.add_one.new.self c.args.octets.now view c.loop-index.index c.self.view_is
    c.read-read.ensures.same told own
    (omega (arith, c.loop-index-test.true, c.count-index-end.ensures, number view))
    (c.in_default.ensures.err ∙ c.loop-index.invariant)

pub returns : goal.returns
returns c =
    let tables = c.self.inside.message_reader in
    let view = c.in-Ok.view in
    let all = number view in
    let told = spelt_entries (reports_of view.message) in
    let end : length told ≤ c.loop-index.index =
    omega (arith, c.loop-index-test.false, c.count-index-end.ensures, all) in
    let start : ArchiveView = record {
      tables = c.read-read.new.self;
      entries = kept c.self.inside.entries;
    } in
    let is : message_of tables c.args.octets.now ≡ Ok view =
    subst (λ r. Gives (λ d. d) r (message_of tables c.args.octets.now)) c.in-Ok.is
    c.read-read.ensures.exact in
    let own : spelt_entries (reports_of view.message)
    ≡ report_entries tables (reports_of view.message) =
    spelt_are_entries c.written_messages_are_spelt.ensures.only
    c.canonical_messages_are_own.ensures tables (reports_of view.message)
    (c.reports_have_canonical_messages.ensures tables view.message c.args.octets.now
    view.slack_octets (subst (λ r. IfOk r (λ d. Spells tables d.message c.args.octets.now d.slack_octets)) c.in-Ok.is c.read-read.ensures.found)) in
    builder_adds tables c.read-read.new.self (kept c.self.inside.entries)
    c.args.self.now c.loop-index.self c.args.octets.now view c.self.view_is
    c.read-read.ensures.same is own
    (c.loop-index.invariant ∙ ap (taken_in start) (take_all c.loop-index.index told end))
