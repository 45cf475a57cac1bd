use Rattle.std.proofs.Common.{◌≡◌, take}
use Rattle.bufr_shelves.proofs.sorted_shelf.sorted.copied.Given as goal

-- the copy has the pairs before this one
abbrev pub invariant-loop-pair : goal.invariant-loop-pair
invariant-loop-pair g l = l.copy.items ≡ take l.pair-index l.pairs.items
