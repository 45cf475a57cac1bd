use Rattle.std.proofs.Common.{◌≡◌, ◌≤◌, ◌+◌, ◌-◌, length, map}
use Rattle.bufr_bits.specs.Ends.{left}
use Rattle.bufr_expand.specs.Courses.{course}
use Rattle.bufr_expand.specs.Walks as walks
use Rattle.bufr_expand.specs.Limits.{most_items}
use Rattle.bufr_data.specs.Compressed.Reading.{columns_at}
use Rattle.bufr_data.specs.Compressed.Indexed.{AllOpen, behind_columns, column_from}
use Rattle.bufr_fields.specs.Steady.{IsReady}
use Rattle.bufr_data.proofs.compressed.index.column_places.Given as goal

-- the walk can go on, a column begins at each place found, and the index is these columns and those
-- from the next on
abbrev pub invariant-loop-fault : goal.invariant-loop-fault
invariant-loop-fault l = record {
  ready : IsReady l.walk;
  few : length l.places.items ≤ walks.items_met l.walk;
  limit : walks.items_met l.walk ≤ most_items;
  octets : l.reader.octets ≡ l.fn.reader.octets;
  onward : l.fn.reader.place ≤ l.reader.place;
  open_all : AllOpen l.fn.reader.octets l.subsets l.places.items;
  so_far : columns_at l.subsets 1 (course l.template 0) (left l.fn.reader)
      ≡ behind_columns (map (column_from l.fn.reader.octets l.subsets) l.places.items)
      (columns_at l.subsets (length l.places.items + 1) (walks.left l.walk) (left l.reader));
}

-- each field is at least one more item, and items are limited
abbrev pub decreases-loop-fault : goal.decreases-loop-fault
decreases-loop-fault l = most_items + 1 - walks.items_met l.walk
