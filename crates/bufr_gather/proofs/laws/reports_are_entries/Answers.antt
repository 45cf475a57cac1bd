-- By the laws of messages and of canonical messages.
use Rattle.bufr_gather.proofs.ReportFacts.{reports_are_entries}
use Rattle.bufr_gather.proofs.laws.reports_are_entries.Goals as goal

pub returns : goal.returns
returns c =
    reports_are_entries c.messages_are_spelt.ensures.read c.written_messages_are_spelt.ensures.only
    c.canonical_messages_are_reports.ensures.read c.reports_have_canonical_messages.ensures
