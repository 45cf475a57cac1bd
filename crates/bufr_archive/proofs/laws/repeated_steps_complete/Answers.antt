-- The reports joined before are joined again, and none is new.
use Rattle.bufr_archive.proofs.StepFacts.{repeat_completes}
use Rattle.bufr_archive.proofs.laws.repeated_steps_complete.Goals as goal

pub returns : goal.returns
returns c = repeat_completes
