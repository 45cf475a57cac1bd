-- Reports that were read spell their entries.
use Rattle.bufr_message.specs.Reports.{reports_of}
use Rattle.bufr_gather.proofs.ReportFacts.{spelt_are_entries}
use Rattle.bufr_gather.proofs.report_entry.MessageReports.of_octets.Goals as goal

pub returns-clause-entries : goal.returns-clause-entries
returns-clause-entries c =
    spelt_are_entries c.written_messages_are_spelt.ensures.only
    c.canonical_messages_are_own.ensures c.args.message_reader.now
    (reports_of c.in_ok-view.view.message)
    (c.reports_have_canonical_messages.ensures c.args.message_reader.now c.in_ok-view.view.message
    c.args.octets.now c.in_ok-view.view.slack_octets c.in_ok-view.ensures.found)
