use Rattle.std.proofs.Common.{length}
use Rattle.bufr_expand.specs.EvenTurns.{BeginsFields}
use Rattle.bufr_expand.specs.Trees.{tree_of}
use Rattle.bufr_expand.proofs.even_turns.fields_of.Given as goal

-- the nodes passed have these fields, and the rest comes after them
abbrev pub invariant-loop-first : goal.invariant-loop-first
invariant-loop-first l =
    BeginsFields (tree_of l.fn.nodes) l.operators l.fields.items (tree_of l.rest)

-- the number of nodes left
abbrev pub decreases-loop-first : goal.decreases-loop-first
decreases-loop-first l = length l.rest
