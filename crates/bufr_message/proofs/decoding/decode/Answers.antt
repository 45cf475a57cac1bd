use Rattle.bufr_message.proofs.MessageFacts.{spelt_answered}
use Rattle.bufr_message.proofs.decoding.decode.Goals as goal

pub returns-clause-only : goal.returns-clause-only
returns-clause-only c =
    spelt_answered c.messages_are_spelt.ensures.spelt c.args.tables.now c.args.octets.now
    c.decode_sections.result c.decode_sections.ensures
