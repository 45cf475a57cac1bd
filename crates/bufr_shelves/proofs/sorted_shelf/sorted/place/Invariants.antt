use Rattle.std.proofs.Common.{◌-◌}
use Rattle.bufr_shelves.proofs.SortedLemmas.{Narrowed}
use Rattle.bufr_shelves.proofs.sorted_shelf.sorted.place.Given as goal

-- the key is after all pairs below `low`, and before all from `high` on
abbrev pub invariant-loop-low : goal.invariant-loop-low
invariant-loop-low g l = Narrowed (g.K.Ord.cmp l.key) l.pairs.items l.low l.high

-- the pairs between the bounds
abbrev pub decreases-loop-low : goal.decreases-loop-low
decreases-loop-low g l = l.high - l.low
