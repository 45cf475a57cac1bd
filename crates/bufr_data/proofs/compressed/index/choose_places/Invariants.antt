use Rattle.std.proofs.Common.{length}
use Rattle.bufr_data.proofs.CompressedFacts.Chosen.{ChosenSoFar}
use Rattle.bufr_data.proofs.compressed.index.choose_places.Given as goal

-- the places gathered are those of the columns before `left`
abbrev pub invariant-loop-place : goal.invariant-loop-place
invariant-loop-place l = ChosenSoFar l.asked l.fn.places l.chosen.items l.left

-- each turn leaves one column fewer
abbrev pub decreases-loop-place : goal.decreases-loop-place
decreases-loop-place l = length l.left
