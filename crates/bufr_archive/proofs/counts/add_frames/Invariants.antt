use Rattle.bufr_archive.proofs.CountFacts.{SoFar}
use Rattle.bufr_archive.proofs.counts.add_frames.Given as goal

-- the messages of the frames before this one are added and counted
abbrev pub invariant-loop-frame : goal.invariant-loop-frame
invariant-loop-frame g l = SoFar l.fn.archive l.archive l.frames l.frame-index l.counts l.joined
