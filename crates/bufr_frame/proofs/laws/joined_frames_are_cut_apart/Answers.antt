use Rattle.bufr_frame.specs.JoinedLaws.{cut-joined, cut-front, cut-followed}
use Rattle.bufr_frame.proofs.laws.joined_frames_are_cut_apart.Goals as goal

pub returns : goal.returns
returns c = record { joined = cut-joined; front = cut-front; followed = cut-followed }
