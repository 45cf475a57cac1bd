use Rattle.std.proofs.Common.{◌≡◌, ◌+◌, ◌*◌, length}
use Rattle.bufr_expand.proofs.ExpansionFacts.{expanded}
use Rattle.bufr_expand.proofs.expand.+expand.Given as goal

-- a part calls for a list with one level fewer
abbrev pub decreases-add_first : goal.decreases-add_first
decreases-add_first l = 2 * (l.sequences + l.replications)

-- a list calls for its parts with the same levels
abbrev pub decreases-expand : goal.decreases-expand
decreases-expand l = 2 * (l.sequences + l.replications) + 1

-- the nodes made and those of the rest of the list are all nodes
abbrev pub invariant-expand-loop-first : goal.invariant-expand-loop-first
invariant-expand-loop-first l =
    expanded l.tables l.sequences l.replications l.fn.nodes.items l.fn.list
    ≡ expanded l.tables l.sequences l.replications l.nodes.items l.rest

-- the number of descriptors left
abbrev pub decreases-expand-loop-first : goal.decreases-expand-loop-first
decreases-expand-loop-first l = length l.rest
