-- Plain data: subsets in order, bit by bit (FM 94 BUFR, regulations 94.1.3 and 94.5).
use Rattle.std.specs.Prelude.{◌≡◌, ℕ, zero, suc, ◌+◌, ◌/◌, Bool, List, [], ◌∷◌, ◌++◌, length, Option}
use Rattle.std.specs.Prelude.{Some, None, option_map, Result, Ok, Err, nat_le, if◌then◌else◌}
use Rattle.std.specs.List.{flat_map}
use Rattle.bufr_bits.specs.Bits.{bin, bits, number_at, octets_at}
use Rattle.bufr_base.specs.Answers.{◌>>=◌}
use Rattle.bufr_tables.specs.declared.element.Kind.{Kind}
use Rattle.bufr_tables.specs.declared.element.Kind.TheVariants as kinds
use Rattle.bufr_expand.specs.declared.operators.Spec.{Spec}
use Rattle.bufr_expand.specs.declared.walk.WalkFault.{WalkFault}
use Rattle.bufr_expand.specs.declared.walk.WalkFault.TheVariants as walks
use Rattle.bufr_expand.specs.Courses.{Course, ends, stops, asks}
use Rattle.bufr_expand.specs.Trees.{Tree}
use Rattle.bufr_fields.specs.declared.field.Raw.{Raw}
use Rattle.bufr_fields.specs.declared.field.Raw.TheVariants.{Number, Text}
use Rattle.bufr_fields.specs.declared.field.Field.{Field}
use Rattle.bufr_fields.specs.declared.field.Subset.{Subset}
use Rattle.bufr_fields.specs.declared.fault.DataFault.{DataFault}
use Rattle.bufr_fields.specs.declared.fault.DataFault.TheVariants as faults
use Rattle.bufr_fields.specs.Forms.{number_of}
use Rattle.bufr_fields.specs.Fits.{FitsWithin, AllFitWithin}
use Rattle.bufr_fields.specs.Limits.{most_raw_bits}
pub mod Alike
pub mod Even
pub mod LaidTurns
pub mod Layouts
pub mod NumberTurns
pub mod Numbered
pub mod Reads
pub mod Refusals
pub mod Starts

-- ---- bits of fields

-- the bits of a raw value in a field of `width` bits (regulation 94.1.3)
abbrev pub raw_bits : ℕ → Raw → List Bool
raw_bits width (Number n) = bin width n
raw_bits width (Text octets) = bits octets

-- the bits of a field
abbrev pub field_bits : Field → List Bool
field_bits f = raw_bits f.spec.width f.raw

-- the bits of fields, joined
abbrev pub plain : List Field → List Bool
plain fields = flat_map field_bits fields

-- the bits of subsets, joined without alignment (94.5)
abbrev pub plain_subsets : List Subset → List Bool
plain_subsets subsets = flat_map (λ s. plain s.fields) subsets

-- ---- fields of bits

-- what is read: the fields of a subset, the items of the message up to its end, and the bits left
pub record SubsetRead : Type 0 where
  pub fields : List Field
  pub items : ℕ
  pub rest : List Bool

-- what is read: several subsets, the items of the message up to their end, and the bits left
pub record SubsetsRead : Type 0 where
  pub subsets : List Subset
  pub items : ℕ
  pub rest : List Bool

-- the number of `width` bits that begins the bits; a field of more than 64 bits has none (a
-- template's specs have at most 63)
abbrev pub field_number_at : ℕ → List Bool → Option (ℕ × List Bool)
field_number_at width front = if nat_le width most_raw_bits then number_at width front else None

-- the raw value that begins the bits: octets if the kind is Text, else a number
abbrev pub raw_at_by : Kind → ℕ → List Bool → Option (Raw × List Bool)
raw_at_by kinds.Text width front = option_map (λ x. (Text x.0, x.1)) (octets_at (width / 8) front)
raw_at_by kind width front = option_map (λ x. (Number x.0, x.1)) (field_number_at width front)

-- the raw value of this spec that begins the bits
abbrev pub raw_at : Spec → List Bool → Option (Raw × List Bool)
raw_at spec front = raw_at_by spec.kind spec.width front

-- a field and the fields after it, or the fault that the data end
abbrev pub field_then : ℕ → ℕ → ℕ → Spec → (ℕ → List Bool → Result SubsetRead DataFault)
    → Option (Raw × List Bool) → Result SubsetRead DataFault
field_then j i d spec after None = Err (faults.DataEnds j i)
field_then j i d spec after (Some x) =
    after (number_of x.0) x.1 >>= λ found.
    Ok (record found { fields = record { fxy = d; spec = spec; raw = x.0 } ∷ found.fields })

-- the fault of data if the walk stops
abbrev pub stopped : {A : Type 0} → WalkFault → Result A DataFault
stopped walks.TooLarge = Err faults.TooLarge
stopped (walks.EffectiveRange d) = Err (faults.EffectiveRange d)

-- the fields of subset j, from field i on, that a course asks for in these bits; or the first fault
unfoldable pub fields_at : ℕ → ℕ → Course → List Bool → Result SubsetRead DataFault
fields_at j i (ends n) front = Ok (record { fields = []; items = n; rest = front })
fields_at j i (stops met fault) front = stopped fault
fields_at j i (asks met d spec more) front =
    field_then j i d spec (λ n rest. fields_at j (i + 1) (more n) rest) (raw_at spec front)

-- n subsets from subset j on, which share the limit of items
unfoldable pub subsets_at : (ℕ → Course) → ℕ → ℕ → ℕ → List Bool → Result SubsetsRead DataFault
subsets_at course j zero used front = Ok (record { subsets = []; items = used; rest = front })
subsets_at course j (suc n) used front = do
  first ← fields_at j 1 (course used) front
  others ← subsets_at course (j + 1) n first.items first.rest
  Ok (record others { subsets = record { fields = first.fields } ∷ others.subsets })

-- ---- subsets in the data

-- the bits begin with a subset that fits, and f.rest follows
abbrev pub BeginsWithSubset : Tree → ℕ → List Bool → SubsetRead → Type 0
BeginsWithSubset tree used front f = FitsWithin tree used f.fields f.items
    × (front ≡ plain f.fields ++ f.rest)

-- the bits begin with n subsets that fit, and f.rest follows
abbrev pub BeginsWithSubsets : Tree → ℕ → ℕ → List Bool → SubsetsRead → Type 0
BeginsWithSubsets tree n used front f = (length f.subsets ≡ n) × AllFitWithin tree used f.subsets f.items
    × (front ≡ plain_subsets f.subsets ++ f.rest)
