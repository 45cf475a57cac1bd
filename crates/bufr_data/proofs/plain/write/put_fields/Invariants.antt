use Rattle.std.proofs.Common.{◌≡◌, ◌++◌, take}
use Rattle.bufr_data.specs.Plain.{plain}
use Rattle.bufr_data.proofs.plain.write.put_fields.Given as goal

-- the sink ends with the bits of the fields put
abbrev pub invariant-loop-field : goal.invariant-loop-field
invariant-loop-field l = l.sink ≡ l.fn.sink ++ plain (take l.field-index l.fields)
