use Rattle.std.proofs.Common.{◌+◌, ◌-◌, ◌≤◌}
use Rattle.bufr_expand.specs.Courses.{course}
use Rattle.bufr_expand.specs.Walks as walks
use Rattle.bufr_expand.specs.Limits.{most_items}
use Rattle.bufr_fields.specs.Steady.{IsReady}
use Rattle.bufr_data.proofs.PlainFacts.Layouts.{LaidSoFar}
use Rattle.bufr_data.proofs.plain.layout.Layout.up_to_last.Given as goal

-- the fields laid out are the first that the course asks for, and the walk can go on
abbrev pub invariant-loop-field : goal.invariant-loop-field
invariant-loop-field l = record {
  ready : IsReady l.walk;
  limit : walks.items_met l.walk ≤ most_items;
  so_far : LaidSoFar (course l.template 0) l.fields.items (walks.left l.walk);
}

-- each turn meets an item more, and items are limited
abbrev pub decreases-loop-field : goal.decreases-loop-field
decreases-loop-field l = most_items + 1 - walks.items_met l.walk
