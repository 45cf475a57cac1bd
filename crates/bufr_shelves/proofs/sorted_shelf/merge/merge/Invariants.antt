use Rattle.std.proofs.Common.{◌≡◌, ◌+◌, ◌≤◌, ◌++◌, reverse, vec_len}
use Rattle.std.specs.Vec.{vec_capacity}
use Rattle.bufr_entries.specs.Merging.{merged}
use Rattle.bufr_shelves.specs.Pairs.{by_key, by_value}
use Rattle.bufr_shelves.proofs.sorted_shelf.merge.merge.Given as goal

-- the room fits all pairs, and its pairs with the merge of those left are the whole merge
abbrev pub invariant-loop-pair : goal.invariant-loop-pair
invariant-loop-pair g l =
    (vec_len l.room + (vec_len l.left + vec_len l.right) ≤ vec_capacity l.room)
    × (l.room.items ++ merged (by_key g.K.Ord.cmp) (by_value g.V.Ord.cmp) (reverse l.left.items)
    (reverse l.right.items)
    ≡ merged (by_key g.K.Ord.cmp) (by_value g.V.Ord.cmp) l.fn.left.items l.fn.right.items)

-- the pairs left in both vectors
abbrev pub decreases-loop-pair : goal.decreases-loop-pair
decreases-loop-pair g l = vec_len l.left + vec_len l.right
