use Rattle.bufr_message.proofs.OwnBitsFacts.{canonical_is_own}
use Rattle.bufr_message.proofs.laws.canonical_messages_are_own.Goals as goal

pub returns : goal.returns
returns c = canonical_is_own c.laws_below.ensures
