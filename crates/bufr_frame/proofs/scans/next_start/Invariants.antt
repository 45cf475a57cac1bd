use Rattle.std.proofs.Common.{length, ◌-◌}
use Rattle.bufr_frame.proofs.ScanLaws.{Passed}
use Rattle.bufr_frame.proofs.scans.next_start.Given as goal

-- the frames and the rest from `from` on are those from here on
abbrev pub invariant-loop-here : goal.invariant-loop-here
invariant-loop-here l = Passed l.ended l.octets l.from l.here

abbrev pub decreases-loop-here : goal.decreases-loop-here
decreases-loop-here l = length l.octets - l.here
