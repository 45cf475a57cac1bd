-- Equal frames have the same set of reports, and what is kept depends on that set.
use Rattle.bufr_gather.specs.SameToldLaws.{same_kept}
use Rattle.bufr_gather.proofs.laws.same_messages_same_kept.Goals as goal

pub returns : goal.returns
returns c = same_kept
