use Rattle.bufr_frame.proofs.HoldingLaws.{stands_to, stands_from}
use Rattle.bufr_frame.proofs.laws.framer_holds_what_it_must.Goals as goal

pub returns : goal.returns
returns c = λ framer stream out. (stands_to framer stream out, stands_from framer stream out)
