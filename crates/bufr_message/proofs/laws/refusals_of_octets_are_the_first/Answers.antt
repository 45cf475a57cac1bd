use Rattle.bufr_message.proofs.FaultFacts.{fault_when_refused, refused_when_fault}
use Rattle.bufr_message.proofs.laws.refusals_of_octets_are_the_first.Goals as goal

pub returns : goal.returns
returns c =
    record {
      given = fault_when_refused c.laws_below.ensures;
      answered = refused_when_fault
          c.laws_below.ensures;
    }
