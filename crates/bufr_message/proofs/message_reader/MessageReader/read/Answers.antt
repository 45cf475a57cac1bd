use Rattle.bufr_message.proofs.MessageFacts.{spelt_answered}
use Rattle.bufr_message.proofs.message_reader.MessageReader.read.Goals as goal

pub returns-clause-only : goal.returns-clause-only
returns-clause-only c =
    spelt_answered c.messages_are_spelt.ensures.spelt c.args.self.now c.args.octets.now
    c.view_keeping.result
    (rw c.self.view_is at c.view_keeping.ensures.exact)
