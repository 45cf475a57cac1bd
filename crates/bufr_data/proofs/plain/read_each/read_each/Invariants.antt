use Rattle.std.proofs.Common.{◌≡◌, ◌+◌, ◌-◌, ◌≤◌}
use Rattle.bufr_bits.specs.Ends.{left}
use Rattle.bufr_expand.specs.Courses.{course}
use Rattle.bufr_data.specs.Plain.{subsets_at}
use Rattle.bufr_data.specs.Plain.Numbered.{after}
use Rattle.bufr_data.proofs.plain.read_each.read_each.Given as goal

-- all subsets are those read and those from the next on
abbrev pub invariant-loop-index : goal.invariant-loop-index
invariant-loop-index l = record {
  onward : l.fn.reader.place ≤ l.reader.place;
  same_octets : l.reader.octets ≡ l.fn.reader.octets;
  read : subsets_at (course l.template) 1 l.count 0 (left l.fn.reader)
      ≡ after l.subsets.items
      (subsets_at (course l.template) (l.index + 1) (l.count - l.index) l.used (left l.reader));
}
