use Rattle.std.proofs.Common.{◌≡◌, ◌≤◌, ◌+◌, ◌-◌, List}
use Rattle.bufr_bits.specs.Ends.{left}
use Rattle.bufr_expand.specs.Courses.{course}
use Rattle.bufr_expand.specs.Walks as walks
use Rattle.bufr_expand.specs.Limits.{most_items}
use Rattle.bufr_fields.specs.declared.field.Field.{Field}
use Rattle.bufr_data.specs.Plain.{fields_at}
use Rattle.bufr_data.specs.Plain.Reads.{behind_fields}
use Rattle.bufr_fields.specs.Steady.{IsReady}
use Rattle.bufr_data.proofs.plain.pass.pass_subset.Given as goal

-- the subset is the fields passed and those read after them
abbrev pub invariant-loop-fault : goal.invariant-loop-fault
invariant-loop-fault l = record {
  ready : IsReady l.walk;
  few : l.i ≤ most_items + 1;
  items : l.i ≤ walks.items_met l.walk + 1;
  octets : l.reader.octets ≡ l.fn.reader.octets;
  onward : l.fn.reader.place ≤ l.reader.place;
  so_far : (fields : List Field)
      ×
      (fields_at 1 1 (course l.template l.fn.used) (left l.fn.reader)
      ≡ behind_fields fields (fields_at 1 l.i (walks.left l.walk) (left l.reader)));
}

-- each turn meets an item more, and items are limited
abbrev pub decreases-loop-fault : goal.decreases-loop-fault
decreases-loop-fault l = most_items + 1 - walks.items_met l.walk
