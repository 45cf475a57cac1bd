use Rattle.bufr_message.proofs.UnderFacts.{reports_under}
use Rattle.bufr_message.proofs.laws.reports_have_canonical_messages.Goals as goal

pub returns : goal.returns
returns c = reports_under c.laws_below.ensures
