use Rattle.std.proofs.Common.{◌-◌, ◌++◌, List, take}
use Rattle.bufr_frame.specs.declared.frames.Found.{Found}
use Rattle.bufr_io.proofs.TakingFacts.{Between}
use Rattle.bufr_io.proofs.taking.take_stream.Given as goal

-- the octets read so far, with their sure frames taken in
abbrev pub invariant-loop-framer : goal.invariant-loop-framer
invariant-loop-framer g l =
    Between (g.T.TakesFrames.HasTaken l.initial.taker l.initial.out l.taker l.out)
    (g.T.TakesFrames.HoldsNone l.taker l.out) l.fn.name l.reads (g.S.Source.reading l.initial.reader)
    (g.S.Source.reading l.reader) l.pieces l.framer l.length

abbrev pub decreases-loop-framer : goal.decreases-loop-framer
decreases-loop-framer g l = l.reads - l.pieces.made

-- after all frames before the end, the taker has the frames up to this one
abbrev pub invariant-loop-frame : goal.invariant-loop-frame
invariant-loop-frame g l =
    (before : List Found)
    → g.T.TakesFrames.HasTaken l.fn.taker l.fn.out l.initial.taker l.initial.out before
    → g.T.TakesFrames.HasTaken l.fn.taker l.fn.out l.taker l.out
    (before ++ take l.frame-index l.frame-items)
