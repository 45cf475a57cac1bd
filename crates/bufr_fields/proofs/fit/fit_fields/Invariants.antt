use Rattle.std.proofs.Common.{◌≡◌, ◌≤◌, ◌+◌, drop}
use Rattle.bufr_expand.specs.Courses.{course}
use Rattle.bufr_expand.specs.Walks as walks
use Rattle.bufr_expand.specs.Limits.{most_items}
use Rattle.bufr_fields.specs.Forms.{items_of}
use Rattle.bufr_fields.specs.Steady.{IsReady}
use Rattle.bufr_fields.proofs.fit.fit_fields.Given as goal

-- the walk can go on, has met an item for each field, and its course counts the fields left as the
-- whole course counts all
abbrev pub invariant-loop-index : goal.invariant-loop-index
invariant-loop-index l = record {
  ready : IsReady l.walk;
  few : l.index ≤ most_items;
  items : l.fn.used + l.index ≤ walks.items_met l.walk;
  so_far : items_of l.fn.j 1 (course l.fn.template l.fn.used) l.fields
      ≡ items_of l.fn.j (l.index + 1) (walks.left l.walk) (drop l.index l.fields);
}
