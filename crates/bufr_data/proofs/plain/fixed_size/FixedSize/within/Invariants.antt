use Rattle.std.proofs.Common.{◌+◌, ◌-◌, ◌≤◌}
use Rattle.bufr_expand.specs.Courses.{course}
use Rattle.bufr_expand.specs.Walks as walks
use Rattle.bufr_expand.specs.Limits.{most_items}
use Rattle.bufr_fields.specs.Steady.{IsReady}
use Rattle.bufr_data.proofs.PlainFacts.Alike.{Measured}
use Rattle.bufr_data.proofs.plain.fixed_size.FixedSize.within.Given as goal

-- the fields passed take `bits` bits, within the limit, and the walk can go on
abbrev pub invariant-loop-run : goal.invariant-loop-run
invariant-loop-run l = record {
  ready : IsReady l.walk;
  few : l.bits ≤ l.most;
  limit : walks.items_met l.walk ≤ most_items;
  so_far : Measured (course l.template 0) l.bits (walks.left l.walk);
}

-- each turn meets an item more, and items are limited
abbrev pub decreases-loop-run : goal.decreases-loop-run
decreases-loop-run l = most_items + 1 - walks.items_met l.walk
