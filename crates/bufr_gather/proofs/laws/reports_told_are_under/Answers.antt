-- A frame has octets of its stream, and each report of its message has a canonical message.
use Rattle.bufr_gather.proofs.UnderFacts.{told_under}
use Rattle.bufr_gather.proofs.laws.reports_told_are_under.Goals as goal

pub returns : goal.returns
returns c =
    told_under c.cut_is_taken_from_the_left.ensures.is c.messages_are_spelt.ensures.read
    c.reports_have_canonical_messages.ensures
