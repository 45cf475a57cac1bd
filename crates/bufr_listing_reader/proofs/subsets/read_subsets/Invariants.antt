use Rattle.std.proofs.Common.{◌≡◌, length}
use Rattle.bufr_expand.specs.Courses.{course}
use Rattle.bufr_listing_reader.specs.Cursors.{left, past}
use Rattle.bufr_listing_reader.proofs.LoopFacts.{SubsetsSoFar}
use Rattle.bufr_listing_reader.proofs.subsets.read_subsets.Given as goal

-- the subsets read, and those of the lines left, are the message's
abbrev pub invariant-loop-alloc : goal.invariant-loop-alloc
invariant-loop-alloc l = record {
  last : past l.lines ≡ past l.fn.lines;
  so_far : SubsetsSoFar (past l.fn.lines) (course l.template)
      (left l.fn.lines) l.subsets.items l.used (left l.lines);
}

abbrev pub decreases-loop-alloc : goal.decreases-loop-alloc
decreases-loop-alloc l = length (left l.lines)
