use Rattle.std.proofs.Common.{length}
use Rattle.bufr_engines.proofs.StackFacts.{HoldTogether}
use Rattle.bufr_engines.proofs.text_stack.settle.Given as goal

-- the texts left and the one merged of those above them hold what all held
abbrev pub invariant-loop-below : goal.invariant-loop-below
invariant-loop-below l =
    HoldTogether l.tables l.initial.texts.items l.initial.top l.texts.items l.top

abbrev pub decreases-loop-below : goal.decreases-loop-below
decreases-loop-below l = length l.texts.items
