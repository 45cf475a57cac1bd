use Rattle.bufr_message.proofs.UnwrittenFacts.{fault_when_unwritten, unwritten_when_fault}
use Rattle.bufr_message.proofs.laws.refusals_of_messages_are_the_first.Goals as goal

pub returns : goal.returns
returns c =
    record {
      given = fault_when_unwritten c.laws_below.ensures;
      answered = unwritten_when_fault
          c.laws_below.ensures;
    }
