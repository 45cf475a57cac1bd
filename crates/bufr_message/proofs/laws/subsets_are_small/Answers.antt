use Rattle.bufr_message.proofs.SmallFacts.{subsets_small}
use Rattle.bufr_message.proofs.laws.subsets_are_small.Goals as goal

pub returns : goal.returns
returns c =
    subsets_small (record {
      steady = c.courses_are_steady.ensures.steady;
      within_limits = c.courses_are_steady.ensures.within_limits;
      allowed = c.courses_are_unrollings.ensures.allowed;
    })
