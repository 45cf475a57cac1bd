use Rattle.bufr_frame.specs.CutLaws.{cut_is, cut_only}
use Rattle.bufr_frame.proofs.laws.cut_is_taken_from_the_left.Goals as goal

pub returns : goal.returns
returns c = record { is = cut_is; only = cut_only }
