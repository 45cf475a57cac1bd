-- By the octets and the key of the report.
use Rattle.std.proofs.Common.{ℕ, Vec, Global, ap, arith}
use Rattle.std.proofs.lemmas.List.{length-map}
use Rattle.std.specs.Option.{option_map}
use Rattle.bufr_sections.specs.declared.message.Head.{Head}
use Rattle.bufr_message.specs.Reports.{report_of, reports_of}
use Rattle.bufr_gather.specs.ReportEntries.{spelt_entry}
use Rattle.bufr_gather.proofs.ReportFacts.{viewed_none, viewed_some}
use Rattle.bufr_gather.proofs.report_entry.MessageReports.entry_at.Goals as goal

pub returns-in_default : goal.returns-in_default
returns-in_default c =
    viewed_none (reports_of c.args.self.now.view.message) c.args.index _ c.in_ok-octets.ensures
    (ap (option_map (λ (v : Vec ℕ Global). v.items)) c.in_default.is)

pub returns : goal.returns
returns c =
    viewed_some c.args.self.now.view.message c.args.index _ c.in-Some.octets.items
    c.from_vec.result c.in_ok-key_at.field-0 c.head.result.now.update
    (omega (
      arith,
      c.requires,
      length-map (reports_of c.args.self.now.view.message) spelt_entry,
      length-map c.args.self.now.view.message.subsets (report_of c.args.self.now.view.message),
    ))
    c.in_ok-octets.ensures (ap (option_map (λ (v : Vec ℕ Global). v.items)) c.in-Some.is)
    c.in_ok-key_at.ensures (ap (λ (h : Head). h.update) c.head.ensures) c.from_vec.ensures
