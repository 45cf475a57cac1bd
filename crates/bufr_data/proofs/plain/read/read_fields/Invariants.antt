use Rattle.std.proofs.Common.{◌≡◌, ◌≤◌, ◌+◌, ◌-◌, length}
use Rattle.bufr_bits.specs.Ends.{left}
use Rattle.bufr_expand.specs.Courses.{course}
use Rattle.bufr_expand.specs.Walks as walks
use Rattle.bufr_expand.specs.Limits.{most_items}
use Rattle.bufr_data.specs.Plain.{fields_at}
use Rattle.bufr_data.specs.Plain.Reads.{behind_fields}
use Rattle.bufr_fields.specs.Steady.{IsReady}
use Rattle.bufr_data.proofs.plain.read.read_fields.Given as goal

-- the walk can go on, has met an item for each field, and the subset is the fields read and those
-- from the next on
abbrev pub invariant-loop-fields : goal.invariant-loop-fields
invariant-loop-fields l = record {
  ready : IsReady l.walk;
  few : length l.fields.items ≤ most_items;
  items : l.fn.used + length l.fields.items ≤ walks.items_met l.walk;
  octets : l.reader.octets ≡ l.fn.reader.octets;
  onward : l.fn.reader.place ≤ l.reader.place;
  so_far : fields_at 1 1 (course l.template l.fn.used) (left l.fn.reader)
      ≡ behind_fields l.fields.items
      (fields_at 1 (length l.fields.items + 1) (walks.left l.walk) (left l.reader));
}

-- each field is at least one more item, and items are limited
abbrev pub decreases-loop-fields : goal.decreases-loop-fields
decreases-loop-fields l = most_items + 1 - walks.items_met l.walk
