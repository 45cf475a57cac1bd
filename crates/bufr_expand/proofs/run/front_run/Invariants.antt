use Rattle.std.proofs.Common.{◌≡◌, ◌+◌, drop, length}
use Rattle.bufr_expand.specs.Runs.{BeginsRun}
use Rattle.bufr_expand.specs.Trees.{tree_of}
use Rattle.bufr_expand.proofs.run.front_run.Given as goal

-- the nodes passed are a run, and the rest comes after them
abbrev pub invariant-loop-first : goal.invariant-loop-first
invariant-loop-first l = record {
  counted : l.run.items + length l.rest ≡ length l.fn.nodes;
  each_one : l.run.fields ≡ l.run.items;
  rest_is : l.rest ≡ drop l.run.items l.fn.nodes;
  so_far : BeginsRun (tree_of l.fn.nodes) l.operators l.run (tree_of l.rest);
}

-- the number of nodes left
abbrev pub decreases-loop-first : goal.decreases-loop-first
decreases-loop-first l = length l.rest
