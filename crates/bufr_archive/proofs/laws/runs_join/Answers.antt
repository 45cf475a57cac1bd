-- By induction on the steps of the first list.
use Rattle.bufr_archive.proofs.StepFacts.{runs_join}
use Rattle.bufr_archive.proofs.laws.runs_join.Goals as goal

pub returns : goal.returns
returns c = runs_join
