-- Reading a subset field by field.
use Rattle.std.specs.Prelude.{◌≡◌, ℕ, ◌+◌, Bool, List, [], ◌∷◌, ◌++◌, Option, Some, None, Result}
use Rattle.std.specs.Prelude.{Ok, Err}
use Rattle.bufr_expand.specs.Courses.{Course}
use Rattle.bufr_fields.specs.declared.field.Raw.{Raw}
use Rattle.bufr_fields.specs.declared.field.Field.{Field}
use Rattle.bufr_fields.specs.declared.fault.DataFault.{DataFault}
use Rattle.bufr_fields.specs.declared.fault.DataFault.TheVariants as faults
use Rattle.bufr_data.specs.Plain.{SubsetRead, fields_at}

-- a raw value, or the fault that the data end in field i of subset j
abbrev pub raw_or_ends : ℕ → ℕ → Option (Raw × List Bool) → Result (Raw × List Bool) DataFault
raw_or_ends j i None = Err (faults.DataEnds j i)
raw_or_ends j i (Some x) = Ok x

-- these fields, and then those found
abbrev pub behind_fields : List Field → Result SubsetRead DataFault → Result SubsetRead DataFault
behind_fields fields (Ok found) = Ok (record found { fields = fields ++ found.fields })
behind_fields fields (Err e) = Err e

-- field i of subset j was read, or the subset ended with these items of the message
abbrev pub Reads : ℕ → ℕ → Course → List Bool → Option Field → Course → ℕ → List Bool → Type 0
Reads j i course front (Some field) after items rest =
    fields_at j i course front ≡ behind_fields (field ∷ []) (fields_at j (i + 1) after rest)
Reads j i course front None after items rest = fields_at j i course front
    ≡ Ok (record { fields = []; items = items; rest = rest })
