use Rattle.std.proofs.Common.{◌≡◌, length}
use Rattle.bufr_report_keys.specs.FirstValues.{all_noted}
use Rattle.bufr_report_keys.proofs.asked.note_chosen.Given as goal

-- the values with the fields left noted are those of all fields
abbrev pub invariant-loop-number : goal.invariant-loop-number
invariant-loop-number l = all_noted l.fields l.values ≡ all_noted l.fn.fields l.fn.values

-- the fields left
abbrev pub decreases-loop-number : goal.decreases-loop-number
decreases-loop-number l = length l.fields
