-- Writing compressed data (FM 94 BUFR, regulation 94.6.3): the one column that is written. Its
-- increments of numbers are the narrowest; texts that differ are whole.
use Rattle.std.specs.Prelude.{◌≡◌, ◌≤◌, ℕ, ◌+◌, ◌-◌, ◌*◌, ◌/◌, ◌^◌, ◌==◌, ◌&&◌, ◌||◌}
use Rattle.std.specs.Prelude.{not, min, max, Bool, true, false, List, [], ◌∷◌, ◌++◌, length, map}
use Rattle.std.specs.Prelude.{filter, drop, replicate, Result, Ok, Err, nat_lt, nat_le}
use Rattle.std.specs.Prelude.{if◌then◌else◌}
use Rattle.std.specs.List.{AllByRecursion, flat_map, list_all}
use Rattle.bufr_bits.specs.Bits.{bin, bits, all_ones}
use Rattle.bufr_base.specs.Answers.{result_map}
use Rattle.bufr_tables.specs.declared.element.Kind.{Kind}
use Rattle.bufr_tables.specs.declared.element.Kind.TheVariants as kinds
use Rattle.bufr_tables.specs.Elements.{same_kind}
use Rattle.bufr_expand.specs.declared.operators.Spec.{Spec}
use Rattle.bufr_fields.specs.declared.field.Raw.{Raw}
use Rattle.bufr_fields.specs.declared.field.Raw.TheVariants.{Number, Text}
use Rattle.bufr_fields.specs.declared.field.Field.{Field}
use Rattle.bufr_fields.specs.declared.field.Subset.{Subset}
use Rattle.bufr_fields.specs.declared.fault.MisfitFault.{MisfitFault}
use Rattle.bufr_fields.specs.declared.fault.MisfitFault.TheVariants as misfits
use Rattle.bufr_data.specs.Plain.{raw_bits}
use Rattle.bufr_fields.specs.Forms.{number_of, same_spec}
use Rattle.bufr_fields.specs.Increments.{fewest_bits}
use Rattle.bufr_data.specs.Compressed.{Column, subsets_from}
use Rattle.bufr_data.specs.Compressed.Reading.{all_equal}
use Rattle.bufr_fields.specs.Limits.{most_values, most_increment_bits}

-- ---- the bits of a column

-- the numbers that are not missing
abbrev pub present : ℕ → List ℕ → List ℕ
present width ns = filter (λ n. not (all_ones width n)) ns

-- the least of a number and others
abbrev pub least_with : ℕ → List ℕ → ℕ
least_with n [] = n
least_with n (m ∷ ms) = min m (least_with n ms)

-- the least of some numbers, or 0
abbrev pub least : List ℕ → ℕ
least [] = 0
least (n ∷ ns) = least_with n ns

-- the greatest of some numbers, or 0
abbrev pub greatest : List ℕ → ℕ
greatest [] = 0
greatest (n ∷ ns) = max n (greatest ns)

-- the increment of a number above the minimum; all ones if it is missing
abbrev pub increment_of : ℕ → ℕ → ℕ → ℕ → ℕ
increment_of width minimum k n = if all_ones width n then 2 ^ k - 1 else n - minimum

-- the column of numbers that differ
abbrev pub best_numbers : ℕ → List ℕ → List Bool
best_numbers width ns =
    let minimum = least (present width ns) in
    let k = fewest_bits most_increment_bits 1 (greatest (present width ns) - minimum) in
    bin width minimum ++ bin 6 k ++ flat_map (bin k) (map (increment_of width minimum k) ns)

-- the column of texts that differ: a minimum of zero bits, and then each text whole
abbrev pub best_texts : ℕ → List (List ℕ) → List Bool
best_texts octets texts = bits (replicate octets 0) ++ bin 6 octets ++ flat_map bits texts

-- the octets of a text; a number has none
abbrev pub octets_of : Raw → List ℕ
octets_of (Number n) = []
octets_of (Text octets) = octets

-- the column of values that differ, by their kind
abbrev pub best_differing : Kind → ℕ → List Raw → List Bool
best_differing kinds.Text width values = best_texts (width / 8) (map octets_of values)
best_differing kind width values = best_numbers width (map number_of values)

-- the bits of the first value
abbrev pub first_bits : ℕ → List Raw → List Bool
first_bits width [] = []
first_bits width (v ∷ values) = raw_bits width v

-- the column written for the values of a field; equal values are R0 alone
abbrev pub best : Spec → List Raw → List Bool
best spec values =
    if all_equal values then first_bits spec.width values ++ bin 6 0
    else best_differing spec.kind spec.width values

-- ---- whether there is a column

-- the greatest width of an increment: in bits, or in octets of a text
abbrev pub widest : Spec → ℕ
widest spec = if same_kind spec.kind kinds.Text then spec.width / 8 else spec.width

-- whether values that differ can share a column: a factor has one value, and NBINC has six bits
abbrev pub can_differ : Spec → Bool
can_differ spec = not (same_kind spec.kind kinds.Count) && nat_le (widest spec) most_increment_bits

-- whether values can share a column
abbrev pub can_be_column : Spec → List Raw → Bool
can_be_column spec values = all_equal values || can_differ spec

-- no field of a subset is wider than NBINC can say
abbrev pub HasNarrowFields : Subset → Type 0
HasNarrowFields s = AllByRecursion (λ f. widest f.spec ≤ most_increment_bits) s.fields

-- ---- the columns of subsets

-- whether the first field of a subset has the descriptor and spec of f
abbrev pub begins_like : Field → List Field → Bool
begins_like f [] = false
begins_like f (g ∷ gs) = f.fxy == g.fxy && same_spec g.spec f.spec

-- the raw value of the first field, or a number 0
abbrev pub first_raw : List Field → Raw
first_raw [] = Number 0
first_raw (f ∷ fs) = f.raw

-- whether no field is left
abbrev pub is_empty : List Field → Bool
is_empty [] = true
is_empty (f ∷ fs) = false

-- a column before the others, or the fault of field i
abbrev pub column_or : ℕ → Bool → Column → Result (List Column) MisfitFault
    → Result (List Column) MisfitFault
column_or i true c others = result_map (λ cs. c ∷ cs) others
column_or i false c others = Err (misfits.NotCompressible i)

-- the columns of a subset's fields, from field i on, and of the subsets after it, or the first
-- field that can't be one column
unfoldable pub columns_of : ℕ → List Field → List (List Field) → Result (List Column) MisfitFault
columns_of i [] others = if list_all is_empty others then Ok [] else Err (misfits.NotCompressible i)
columns_of i (f ∷ fs) others =
    let values = f.raw ∷ map first_raw others in
    column_or i (list_all (begins_like f) others && can_be_column f.spec values)
    (record { fxy = f.fxy; spec = f.spec; values = values })
    (columns_of (i + 1) fs (map (drop 1) others))

-- the columns of subsets
abbrev pub columns_of_all : List Subset → Result (List Column) MisfitFault
columns_of_all [] = Ok []
columns_of_all (s ∷ subsets) = columns_of 1 s.fields (map (λ t. t.fields) subsets)

-- the columns as they are written, joined
abbrev pub best_bits : List Column → List Bool
best_bits columns = flat_map (λ c. best c.spec c.values) columns

-- the bits of columns, within 67,108,864 values
abbrev pub packed : ℕ → List Column → Result (List Bool) MisfitFault
packed n columns =
    if nat_lt most_values (length columns * n) then Err misfits.TooLarge else Ok (best_bits columns)

-- a column of n subsets that can be written
abbrev pub CanBeWritten : ℕ → Column → Type 0
CanBeWritten n c = (length c.values ≡ n) × (can_be_column c.spec c.values ≡ true)

-- subsets with columns that can all be written
abbrev pub CanBePacked : List Subset → List Column → Type 0
CanBePacked subsets columns = (subsets ≡ subsets_from 0 (length subsets) columns)
    × AllByRecursion (CanBeWritten (length subsets)) columns

-- subsets with these columns, all of which can be written, within 67,108,864 values; without
-- subsets there are no columns
abbrev pub AreBestColumns : List Subset → List Column → Type 0
AreBestColumns [] columns = columns ≡ []
AreBestColumns (s ∷ subsets) columns =
    (s ∷ subsets ≡ subsets_from 0 (length (s ∷ subsets)) columns)
    × (length columns * length (s ∷ subsets) ≤ most_values)
    × AllByRecursion (CanBeWritten (length (s ∷ subsets))) columns
