use Rattle.bufr_frame.specs.StreamLaws.{sure-piece, cut-end, cut-piece}
use Rattle.bufr_frame.proofs.laws.sure_stays.Goals as goal

pub returns : goal.returns
returns c = record { sure = sure-piece; cut = cut-end; longer_cut = cut-piece }
