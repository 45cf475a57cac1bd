use Rattle.std.proofs.Common.{◌≡◌, length}
use Rattle.bufr_report_keys.specs.FirstValues.{all_noted}
use Rattle.bufr_report_keys.proofs.asked.note_short.Given as goal

-- the values with the fields left noted are those of all fields
abbrev pub invariant-loop-field : goal.invariant-loop-field
invariant-loop-field l = all_noted l.fields l.values ≡ all_noted l.fn.fields l.fn.values

-- the fields left
abbrev pub decreases-loop-field : goal.decreases-loop-field
decreases-loop-field l = length l.fields
