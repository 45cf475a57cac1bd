use Rattle.bufr_message.proofs.ReportFacts.{canonical_tells_apart, canonical_is_read, one_report}
use Rattle.bufr_message.proofs.ReportFacts.{canonical_long}
use Rattle.bufr_message.proofs.laws.canonical_messages_are_reports.Goals as goal

pub returns-clause-apart : goal.returns-clause-apart
returns-clause-apart c = canonical_tells_apart c.laws_below.ensures

pub returns-clause-read : goal.returns-clause-read
returns-clause-read c = λ tables r octets d. (
  canonical_is_read c.laws_below.ensures tables r octets d,
  one_report c.laws_below.ensures tables r octets d,
)

pub returns-clause-long : goal.returns-clause-long
returns-clause-long c = canonical_long
