use Rattle.bufr_message.proofs.MessageFacts.{message_of_takes, message_of_spelt}
use Rattle.bufr_message.proofs.laws.messages_are_spelt.Goals as goal

pub returns : goal.returns
returns c =
    record
    { read = message_of_takes c.laws_below.ensures; spelt = message_of_spelt c.laws_below.ensures }
