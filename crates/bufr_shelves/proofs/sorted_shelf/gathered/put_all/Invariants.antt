use Rattle.std.proofs.Common.{◌≡◌, ◌++◌, length}
use Rattle.bufr_entries.specs.Entries.{kept}
use Rattle.bufr_shelves.proofs.sorted_shelf.gathered.put_all.Given as goal

-- what is kept of the shelf and the entries left is constant
abbrev pub invariant-loop-first : goal.invariant-loop-first
invariant-loop-first l = kept (kept l.shelf ++ l.left) ≡ kept (kept l.fn.shelf ++ l.fn.left)

-- the entries left
abbrev pub decreases-loop-first : goal.decreases-loop-first
decreases-loop-first l = length l.left
