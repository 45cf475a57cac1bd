use Rattle.std.proofs.Common.{◌≡◌, ◌≤◌, ◌++◌, drop, length, reverse, vec_len}
use Rattle.std.specs.Vec.{vec_capacity}
use Rattle.bufr_gather.specs.MergedOctets.{marks_out}
use Rattle.bufr_gather.proofs.merged_marks.merged_marks.Given as goal

-- the marks moved, and those of the origins left, are all; the room fits them
abbrev pub invariant-loop-origin : goal.invariant-loop-origin
invariant-loop-origin l = record {
  moved : l.room.items
      ++ marks_out (drop l.origin-index l.origins) (reverse l.left.items) (reverse l.right.items)
      ≡ marks_out l.origins l.fn.left.items l.fn.right.items;
  few : vec_len l.room ≤ l.origin-index;
  room : length l.origins ≤ vec_capacity l.room;
}
