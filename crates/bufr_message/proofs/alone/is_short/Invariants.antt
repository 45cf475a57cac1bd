use Rattle.std.proofs.Common.{◌≡◌, ◌≤◌, length, take}
use Rattle.bufr_data.specs.Plain.{plain}
use Rattle.bufr_message.proofs.alone.is_short.Given as goal

-- the bits are those of the fields before, at most 8 times 16,777,215
abbrev pub invariant-loop-field : goal.invariant-loop-field
invariant-loop-field l =
    (l.bits ≡ length (plain (take l.field-index l.subset.fields))) × (l.bits ≤ 134217720)
