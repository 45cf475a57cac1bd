use Rattle.std.proofs.Common.{length}
use Rattle.bufr_engines.proofs.StackFacts.{LeftTogether}
use Rattle.bufr_engines.proofs.text_stack.merge_upper.Given as goal

-- the texts left and those taken hold what all held
abbrev pub invariant-loop-below : goal.invariant-loop-below
invariant-loop-below l =
    LeftTogether l.tables l.initial.texts.items l.texts.items l.lowest l.upper

abbrev pub decreases-loop-below : goal.decreases-loop-below
decreases-loop-below l = length l.texts.items
