use Rattle.std.proofs.Common.{◌≡◌, ◌+◌, ◌≤◌, ◌++◌, length, reverse}
use Rattle.std.specs.List.Sorted.{IsStrictlySortedBy}
use Rattle.bufr_entries.specs.Entries.{slot_cmp, kept}
use Rattle.bufr_entries.specs.Pages.{flat, AreRising}
use Rattle.bufr_entries.proofs.settling.settle.Given as goal

-- the entries left are in order; the pages with what is kept of the rest are what is kept of all;
-- no more wait than before
abbrev pub invariant-loop-alloc : goal.invariant-loop-alloc
invariant-loop-alloc l = record {
  sorted : IsStrictlySortedBy slot_cmp l.left;
  rising : AreRising (reverse l.waiting);
  all : flat l.settled.items ++ kept (l.left ++ reverse l.waiting)
      ≡ kept (flat l.fn.settled.items ++ (l.fn.left ++ l.fn.waiting));
  fewer : length l.waiting ≤ length l.fn.waiting;
}

-- the entries left
abbrev pub decreases-loop-alloc : goal.decreases-loop-alloc
decreases-loop-alloc l = length l.left + length l.waiting
