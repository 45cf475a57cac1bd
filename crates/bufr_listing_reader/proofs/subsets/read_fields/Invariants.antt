use Rattle.std.proofs.Common.{◌≡◌, ◌-◌}
use Rattle.bufr_expand.specs.Courses.{course}
use Rattle.bufr_expand.specs.Walks as walks
use Rattle.bufr_fields.specs.Steady.{IsReady}
use Rattle.bufr_listing_reader.specs.Cursors.{left, past}
use Rattle.bufr_listing_reader.specs.Reading.{fields_read}
use Rattle.bufr_listing_reader.specs.Steps.{behind_fields}
use Rattle.bufr_listing_reader.proofs.subsets.read_fields.Given as goal

-- the walk can go on, and the fields read, with those that it asks for, are the subset's
abbrev pub invariant-loop-fields : goal.invariant-loop-fields
invariant-loop-fields l = record {
  ready : IsReady l.walk;
  last : past l.lines ≡ past l.fn.lines;
  so_far : fields_read (past l.fn.lines) (course l.template l.fn.used) (left l.fn.lines)
      ≡ behind_fields l.fields.items
      (fields_read (past l.fn.lines) (walks.left l.walk) (left l.lines));
}

abbrev pub decreases-loop-fields : goal.decreases-loop-fields
decreases-loop-fields l = 16777217 - walks.items_met l.walk
