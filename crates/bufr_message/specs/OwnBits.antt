-- The octets that a report's own fields spell alone, without tables: a report has the same
-- canonical message under all tables under which it has one.
use Rattle.std.specs.Prelude.{◌≡◌, ℕ, ◌^◌, ◌&&◌, ◌++◌, Bool, true, false, List, Option, Some, None, nat_lt}
use Rattle.std.specs.Prelude.{nat_le, if◌then◌else◌}
use Rattle.std.specs.List.{AllByRecursion, list_all}
use Rattle.bufr_tables.specs.Entries.{Entries}
use Rattle.bufr_fields.specs.declared.field.Raw.{Raw}
use Rattle.bufr_fields.specs.declared.field.Raw.TheVariants.{Number, Text}
use Rattle.bufr_fields.specs.declared.field.Field.{Field}
use Rattle.bufr_fields.specs.declared.field.Subset.{Subset}
use Rattle.bufr_data.specs.Plain.{plain}
use Rattle.bufr_fields.specs.Limits.{most_raw_bits}
use Rattle.bufr_message.specs.declared.report.Report.{Report}
use Rattle.bufr_message.specs.Encodings.{enclosed_or}
use Rattle.bufr_message.specs.Reports.{alone, if_written, IsCanonical}

-- a raw value fits these bits: a number is below 2 to their power, with at most 64 (FM 94 BUFR,
-- regulation 94.1.3)
abbrev pub has_room : ℕ → Raw → Bool
has_room width (Number n) = nat_le width most_raw_bits && nat_lt n (2 ^ width)
has_room width (Text octets) = true

-- each raw value fits the bits of its field
abbrev pub have_room : List Field → Bool
have_room fields = list_all (λ (f : Field). has_room f.spec.width f.raw) fields

-- the bits of fields, if each value fits
abbrev pub own_bits : List Field → Option (List Bool)
own_bits fields = if have_room fields then Some (plain fields) else None

-- the values of each subset fit
abbrev pub HaveRoom : List Subset → Type 0
HaveRoom subsets = AllByRecursion (λ s. have_room s.fields ≡ true) subsets

-- the octets of the report alone with these data bits, if it is not too long
abbrev pub spelt_with : Report → Option (List Bool) → Option (List ℕ)
spelt_with r None = None
spelt_with r (Some data_bits) = if_written (enclosed_or (alone r) data_bits)

-- the octets that the report's own fields spell
abbrev pub spelt_alone : Report → Option (List ℕ)
spelt_alone r = spelt_with r (own_bits r.subset.fields)

-- the octets, if there are any, follow the old ones, and the flag is up; else the old ones stay
abbrev pub IsPutBehind : List ℕ → Option (List ℕ) → Bool → List ℕ → Type 0
IsPutBehind old None there new = (there ≡ false) × (new ≡ old)
IsPutBehind old (Some octets) there new = (there ≡ true) × (new ≡ old ++ octets)

-- what the report spells alone, if anything, follows the old octets
abbrev pub AddsOwn : Option Report → List ℕ → Bool → List ℕ → Type 0
AddsOwn None old there new = ⊥
AddsOwn (Some r) old there new = IsPutBehind old (spelt_alone r) there new

-- the canonical message of a report, whatever the tables, is what its own fields spell
abbrev pub CanonicalIsOwn : Type 0
CanonicalIsOwn = (tables : Entries) (r : Report) (octets : List ℕ)
    → IsCanonical tables r octets → spelt_alone r ≡ Some octets
