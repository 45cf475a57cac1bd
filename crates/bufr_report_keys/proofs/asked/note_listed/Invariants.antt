use Rattle.std.proofs.Common.{◌≡◌, drop}
use Rattle.bufr_report_keys.specs.FirstValues.{all_noted}
use Rattle.bufr_report_keys.proofs.asked.note_listed.Given as goal

-- the values with the fields left noted are those of all fields
abbrev pub invariant-loop-field : goal.invariant-loop-field
invariant-loop-field l =
    all_noted (drop l.field-index l.fields) l.values ≡ all_noted l.fields l.fn.values
