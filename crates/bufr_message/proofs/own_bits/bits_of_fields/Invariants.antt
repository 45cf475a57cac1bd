use Rattle.std.proofs.Common.{◌≡◌, take, true}
use Rattle.bufr_data.specs.Plain.{plain}
use Rattle.bufr_message.specs.OwnBits.{have_room}
use Rattle.bufr_message.proofs.own_bits.bits_of_fields.Given as goal

-- the sink has the bits of the fields before, and each value fits
abbrev pub invariant-loop-field : goal.invariant-loop-field
invariant-loop-field l =
    (l.sink ≡ plain (take l.field-index l.fields))
    × (have_room (take l.field-index l.fields) ≡ true)
