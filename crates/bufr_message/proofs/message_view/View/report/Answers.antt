use Rattle.std.proofs.Common.{◌-◌, ℕ, List, subst}
use Rattle.std.specs.Prelude.{IfOk}
use Rattle.bufr_tables.specs.Entries.{Entries}
use Rattle.bufr_sections.specs.declared.message.Message.{Message}
use Rattle.bufr_sections.specs.declared.message.Decoded.{Decoded}
use Rattle.bufr_message.specs.Messages.{Spells}
use Rattle.bufr_message.specs.Reports.{IsUnder}
use Rattle.bufr_message.proofs.ViewFacts.{one_report, under_answer}
use Rattle.bufr_message.proofs.message_view.View.report.Goals as goal

pub returns-clause-under : goal.returns-clause-under
returns-clause-under c =
    let v = c.self.inside in
    let m : Message =
    record {
      head = v.sections.head;
      section2 = v.sections.section2;
      observed = v.sections.observed;
      compressed = v.sections.compressed;
      descriptors = v.descriptors.value;
      subsets = v.subsets;
    } in
    let made =
    one_report m
    (c.args.number - 1) c.in_ok-subset.subset c.report_with.result c.in_ok-subset.ensures
    (rw (c.as_slice.ensures, c.deref.ensures) at c.report_with.ensures) in
    subst (λ (d : Decoded). (tables : Entries) (octets : List ℕ) (slack : ℕ)
    → Spells tables d.message octets slack → IfOk c.report_with.result (IsUnder tables))
    c.self.view_is
    (under_answer c.reports_have_canonical_messages.ensures m
    (c.args.number - 1) c.report_with.result made)
