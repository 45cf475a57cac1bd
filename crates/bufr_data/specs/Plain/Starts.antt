-- The index of plain data: where each subset begins, and its fields (FM 94 BUFR, regulations 94.1.3
-- and 94.5).
use Rattle.std.specs.Prelude.{◌≡◌, ℕ, ◌+◌, ◌*◌, ◌≤◌, Bool, List, [], drop, length}
use Rattle.std.specs.Prelude.{Option, Some, None, Result, Ok, Err, IsOk}
use Rattle.std.specs.List.{AllByRecursion}
use Rattle.bufr_bits.specs.Bits.{bits}
use Rattle.bufr_expand.specs.declared.operators.Spec.{Spec}
use Rattle.bufr_expand.specs.Courses.{Course, course}
use Rattle.bufr_expand.specs.Trees.{Tree}
use Rattle.bufr_fields.specs.declared.field.Raw.{Raw}
use Rattle.bufr_fields.specs.declared.field.Field.{Field}
use Rattle.bufr_fields.specs.declared.field.Subset.{Subset}
use Rattle.bufr_fields.specs.declared.fault.DataFault.{DataFault}
use Rattle.bufr_data.specs.declared.plain.index.SubsetStart.{SubsetStart}
use Rattle.bufr_data.specs.Plain.{SubsetRead, raw_at, fields_at}
use Rattle.bufr_data.specs.Plain.Reads.{raw_or_ends, behind_fields}

-- ---- passing a subset

-- field i was passed, and `rest` follows
abbrev pub PassesRaw : ℕ → Spec → List Bool → List Bool → Type 0
PassesRaw i spec front rest =
    (raw : Raw) × (raw_or_ends 1 i (raw_at spec front) ≡ Ok (raw, rest))

-- a number of fields were passed, from any field of the subset on
abbrev pub PassesFields : ℕ → Course → List Bool → Course → List Bool → Type 0
PassesFields count course front after rest = (i : ℕ) → (fields : List Field)
    × (fields_at 1 i course front ≡ behind_fields fields (fields_at 1 (i + count) after rest))

-- the fields from field i up to the next one were passed, or the subset ended with these items of
-- the message
abbrev pub PassesOn : ℕ → Course → List Bool → Option ℕ → Course → ℕ → List Bool → Type 0
PassesOn i course front (Some next) after items rest = (fields : List Field)
    × (fields_at 1 i course front ≡ behind_fields fields (fields_at 1 next after rest))
PassesOn i course front None after items rest =
    fields_at 1 i course front ≡ Ok (record { fields = []; items = items; rest = rest })

-- a subset was passed, with these items of the message up to its end, and `rest` follows
abbrev pub PassesSubset : Result SubsetRead DataFault → ℕ → List Bool → Type 0
PassesSubset found items rest =
    (fields : List Field) × (found ≡ Ok (record { fields = fields; items = items; rest = rest }))

-- ---- the subset at a start

-- the fields that were read
abbrev pub fields_of : Result SubsetRead DataFault → List Field
fields_of (Ok found) = found.fields
fields_of (Err e) = []

-- the bits after them
abbrev pub rest_of : Result SubsetRead DataFault → List Bool
rest_of (Ok found) = found.rest
rest_of (Err e) = []

-- what is read from a start on
abbrev pub subset_at : List ℕ → Tree → SubsetStart → Result SubsetRead DataFault
subset_at octets tree s = fields_at 1 1 (course tree s.used) (drop s.bit (bits octets))

-- the subset at a start
abbrev pub subset_from : List ℕ → Tree → SubsetStart → Subset
subset_from octets tree s = record { fields = fields_of (subset_at octets tree s) }

-- a subset begins at a start and ends at its end
abbrev pub BeginsAtStart : List ℕ → Tree → SubsetStart → Type 0
BeginsAtStart octets tree s = (s.bit ≤ 8 * length octets) × IsOk (subset_at octets tree s)
    × (s.end ≤ 8 * length octets)
    × (rest_of (subset_at octets tree s) ≡ drop s.end (bits octets))

-- a subset begins at every start
abbrev pub AllBegin : List ℕ → Tree → List SubsetStart → Type 0
AllBegin octets tree starts = AllByRecursion (BeginsAtStart octets tree) starts
