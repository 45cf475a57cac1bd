use Rattle.std.proofs.Common.{◌+◌, ◌*◌, ◌≤◌, length}
use Rattle.bufr_expand.specs.Runs.{BeginsRun}
use Rattle.bufr_expand.specs.Trees.{tree_of}
use Rattle.bufr_expand.proofs.run.+run_of.Given as goal

-- the body of the first node is within the nodes after it
abbrev pub decreases-first_run : goal.decreases-first_run
decreases-first_run l = 3 * length l.behind.now + 2

-- each node has fewer nodes after it
abbrev pub decreases-run_of : goal.decreases-run_of
decreases-run_of l = 3 * length l.nodes.now

-- the turns of a body have its nodes
abbrev pub decreases-turns_run : goal.decreases-turns_run
decreases-turns_run l = 3 * length l.nodes.now + 1

-- the nodes passed are a run, and the rest comes after them
abbrev pub invariant-run_of-loop-first : goal.invariant-run_of-loop-first
invariant-run_of-loop-first l = record {
  no_more : length l.rest ≤ length l.fn.nodes;
  so_far : BeginsRun (tree_of l.fn.nodes) l.operators l.run (tree_of l.rest);
}

-- the number of nodes left
abbrev pub decreases-run_of-loop-first : goal.decreases-run_of-loop-first
decreases-run_of-loop-first l = length l.rest
