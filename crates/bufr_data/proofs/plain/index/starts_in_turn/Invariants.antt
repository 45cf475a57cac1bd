use Rattle.std.proofs.Common.{◌≡◌, ◌+◌, ◌-◌, ◌≤◌, map}
use Rattle.bufr_bits.specs.Ends.{left}
use Rattle.bufr_expand.specs.Courses.{course}
use Rattle.bufr_data.specs.Plain.{subsets_at}
use Rattle.bufr_data.specs.Plain.Numbered.{after}
use Rattle.bufr_data.specs.Plain.Starts.{AllBegin, subset_from}
use Rattle.bufr_data.proofs.plain.index.starts_in_turn.Given as goal

-- a subset begins at each start found, and with those read after them they are all subsets
abbrev pub invariant-loop-index : goal.invariant-loop-index
invariant-loop-index l = record {
  onward : l.fn.reader.place ≤ l.reader.place;
  same_octets : l.reader.octets ≡ l.fn.reader.octets;
  stand : AllBegin l.fn.reader.octets l.template l.starts.items;
  read : subsets_at (course l.template) 1 l.count 0 (left l.fn.reader)
      ≡ after (map (subset_from l.fn.reader.octets l.template) l.starts.items)
      (subsets_at (course l.template) (l.index + 1) (l.count - l.index) l.used (left l.reader));
}
