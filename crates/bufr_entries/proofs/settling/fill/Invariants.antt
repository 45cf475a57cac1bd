use Rattle.std.proofs.Common.{◌≡◌, ◌+◌, ◌≤◌, ◌++◌, length, reverse}
use Rattle.std.specs.List.Sorted.{IsStrictlySortedBy}
use Rattle.bufr_entries.specs.Entries.{slot_cmp, kept}
use Rattle.bufr_entries.specs.Pages.{AreRising}
use Rattle.bufr_entries.proofs.settling.fill.Given as goal

-- the entries left are in order; the page with what is kept of the rest is constant; no more are
-- left than before
abbrev pub invariant-loop-order : goal.invariant-loop-order
invariant-loop-order l = record {
  sorted : IsStrictlySortedBy slot_cmp l.left;
  rising : AreRising (reverse l.waiting);
  all : l.room ++ kept (l.left ++ reverse l.waiting)
      ≡ l.fn.room ++ kept (l.fn.left ++ reverse l.fn.waiting);
  fewer : length l.waiting ≤ length l.fn.waiting;
  less : length l.left + length l.waiting ≤ length l.fn.left + length l.fn.waiting;
}

-- the entries left
abbrev pub decreases-loop-order : goal.decreases-loop-order
decreases-loop-order l = length l.left + length l.waiting
