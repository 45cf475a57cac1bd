-- Chosen fields: the fields with a descriptor in a list, which a reader of messages gets
-- beforehand.
use Rattle.std.specs.Prelude.{◌≡◌, ℕ, ◌+◌, ◌*◌, ◌/◌, ◌==◌, ◌≤◌, Bool, List, [], ◌∷◌, drop, length, cond}
use Rattle.std.specs.Prelude.{Option, Some, None, IfSome, nat_le, slice_get, if◌then◌else◌}
use Rattle.std.specs.List.{filter, list_any}
use Rattle.bufr_tables.specs.declared.element.Kind.{Kind}
use Rattle.bufr_tables.specs.declared.element.Kind.TheVariants as kinds
use Rattle.bufr_expand.specs.declared.operators.Spec.{Spec}
use Rattle.bufr_fields.specs.declared.field.Raw.{Raw}
use Rattle.bufr_fields.specs.declared.field.Field.{Field}
use Rattle.bufr_fields.specs.declared.field.Subset.{Subset}
use Rattle.bufr_fields.specs.Limits.{most_raw_bits}
use Rattle.bufr_data.specs.declared.compressed.index.ChosenPlaces.{ChosenPlaces}
use Rattle.bufr_data.specs.declared.compressed.index.ColumnStart.{ColumnStart}
use Rattle.bufr_expand.specs.declared.even_turns.CommonField.{CommonField}
use Rattle.bufr_data.specs.declared.plain.places.ChosenPlace.{ChosenPlace}
use Rattle.bufr_data.specs.Compressed.{subset_of}
use Rattle.bufr_data.specs.Compressed.Indexed.{Indexed}
use Rattle.bufr_data.specs.Plain.{raw_at}
use Rattle.bufr_data.specs.Short.{greatest_short}

-- the descriptor is in the list
abbrev pub is_listed : List ℕ → ℕ → Bool
is_listed list d = list_any (λ e. e == d) list

-- the fields of the descriptors in the list, in order
abbrev pub chosen : List ℕ → List Field → List Field
chosen list fields = filter (λ f. is_listed list f.fxy) fields

-- ---- plain fields at known places

-- the bits of a field (FM 94 BUFR, regulation 94.1.3); a number of more than 64 bits is in no data
abbrev pub field_size_by : Kind → ℕ → ℕ
field_size_by kinds.Text width = 8 * (width / 8)
field_size_by kind width = if nat_le width most_raw_bits then width else 0

-- the bits of a field of this spec
abbrev pub field_size : Spec → ℕ
field_size spec = field_size_by spec.kind spec.width

-- a field after `gap` bits, with its greatest number if its numbers are short
abbrev pub placed : ℕ → CommonField → ChosenPlace
placed gap f = record { gap = gap; field = f; greatest = greatest_short f.spec }

-- the chosen fields of a layout, each with the bits between it and the chosen field before it;
-- `gap` bits come before the first field of the layout
abbrev pub placed_from : List ℕ → ℕ → List CommonField → List ChosenPlace
placed_from list gap [] = []
placed_from list gap (f ∷ fields) = cond (is_listed list f.fxy)
    (placed gap f ∷ placed_from list 0 fields)
    (placed_from list (gap + field_size f.spec) fields)

-- a field with its value, and the fields in the bits after it
abbrev pub placed_then : CommonField → (List Bool → List Field) → Option (Raw × List Bool) → List Field
placed_then f after None = []
placed_then f after (Some x) = record { fxy = f.fxy; spec = f.spec; raw = x.0 } ∷ after x.1

-- the fields at their places in these bits
abbrev pub fields_placed : List ChosenPlace → List Bool → List Field
fields_placed [] front = []
fields_placed (p ∷ places) front =
    placed_then p.field (fields_placed places) (raw_at p.field.spec (drop p.gap front))

-- these bits hold the fields at their places, which say the greatest of short numbers
abbrev pub HoldPlaced : List ChosenPlace → List Bool → Type 0
HoldPlaced [] front = Unit {0}
HoldPlaced (p ∷ places) front = (p.gap ≤ length front) × (x : Raw × List Bool)
    × (raw_at p.field.spec (drop p.gap front) ≡ Some x) × HoldPlaced places x.1
    × (p.greatest ≡ greatest_short p.field.spec)

-- ---- columns

-- the places of the columns of the descriptors in the list
abbrev pub chosen_places : List ℕ → List ColumnStart → List ColumnStart
chosen_places list places = filter (λ p. is_listed list p.fxy) places

-- the places kept are those of the descriptors asked for
abbrev pub AreChosen : List ColumnStart → ChosenPlaces → Type 0
AreChosen places kept = kept.places.items ≡ chosen_places kept.asked places

-- in each of the subsets, the fields of the columns are the chosen fields
abbrev pub HaveChosen : List ℕ → List Subset → Indexed → Type 0
HaveChosen list subsets found = (found.subsets ≡ length subsets)
    × ((i : ℕ) → IfSome (slice_get subsets i) (λ s.
    (subset_of found.columns i).fields ≡ chosen list s.fields))
