use Rattle.bufr_frame.proofs.SureLaws.{sure_is, sure_only}
use Rattle.bufr_frame.proofs.laws.sure_is_the_longest_clear_front.Goals as goal

pub returns : goal.returns
returns c = record { is = sure_is; only = sure_only }
