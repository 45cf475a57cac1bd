use Rattle.std.proofs.Common.{drop}
use Rattle.bufr_frame.proofs.ReachLaws.{Reaching, left_to_do}
use Rattle.bufr_frame.proofs.reaching.reach.Given as goal

-- of the octets held and those taken in, those from the start on are held, and none went
abbrev pub invariant-loop-length : goal.invariant-loop-length
invariant-loop-length l =
    Reaching
    (drop l.fn.from l.fn.octets.items) l.fn.octets.items l.octets.items l.piece l.start l.taken

abbrev pub decreases-loop-length : goal.decreases-loop-length
decreases-loop-length l = left_to_do l.octets.items l.piece l.start l.taken
