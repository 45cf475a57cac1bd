-- What the worked values speak of: fields and facts whose numbers all differ.
use Rattle.std.specs.Prelude.{ℕ, ◌*◌, true, false, List, [], ◌∷◌, ◌++◌, length, map, ℤ}
use Rattle.bufr_tables.specs.Descriptors.{descriptor}
use Rattle.bufr_tables.specs.declared.element.Kind.TheVariants as kinds
use Rattle.bufr_fields.specs.Samples.{field_as}
use Rattle.bufr_fields.specs.declared.field.Raw.TheVariants.{Number, Text}
use Rattle.bufr_fields.specs.declared.field.Field.{Field}
use Rattle.bufr_sections.specs.Samples.{head4}
use Rattle.bufr_select_rows.specs.Rows.{Origin, row}
use Rattle.bufr_select_rows.specs.Values.{shown_value}
use Rattle.bufr_select_rows.specs.declared.column.Column.{Column}
use Rattle.bufr_select_rows.specs.declared.column.Column.TheVariants.{First, Nth}

-- ---- descriptors

-- a block number, a pressure, an air temperature, a wind direction, and one that no field has
abbrev pub block : ℕ
block = descriptor 0 1 1

abbrev pub pressure : ℕ
pressure = descriptor 0 7 4

abbrev pub temperature : ℕ
temperature = descriptor 0 12 101

abbrev pub wind : ℕ
wind = descriptor 0 11 1

abbrev pub absent : ℕ
absent = descriptor 0 4 4

-- ---- fields

-- a field with a descriptor and a number of 16 bits
abbrev pub numbered : ℕ → ℕ → Field
numbered d n = field_as d kinds.Quantity 16 (Number n)

-- a field without a value: all of its 16 bits are one
abbrev pub unsaid : ℕ → Field
unsaid d = numbered d 65535

-- a temperature with this scale, reference value and number
abbrev pub scaled : ℤ → ℤ → ℕ → Field
scaled scale reference n = record {
  fxy = temperature;
  spec = record { kind = kinds.Quantity; scale = scale; reference = reference; width = 16 };
  raw = Number n;
}

-- a name of these octets
abbrev pub named : List ℕ → Field
named octets = field_as (descriptor 0 1 15) kinds.Text (8 * length octets) (Text octets)

-- the text of a cell for a name of these octets
abbrev pub shown_name : List ℕ → List ℕ
shown_name octets = shown_value (named octets)

-- ---- rows

-- a place in a stream with the head of edition 4 of bufr_sections, which has the numbers 258, 772,
-- 5 to 10, 2828, and 13 to 17
abbrev pub somewhere : Origin
somewhere = record {
  input = 3;
  message = 4;
  place = 1840;
  subset = 21;
  head = head4;
  observed = true;
  compressed = false;
}

-- a line of these words
abbrev pub line_of : List ℕ → List ℕ
line_of text = text ++ 10 ∷ []

-- the row of fields with no fields before them
abbrev pub row_from : List Column → List Field → List ℕ
row_from columns fields = row columns somewhere [] fields

-- the row of names of these octets, one for each column
abbrev pub row_of_names : List Column → List (List ℕ) → List ℕ
row_of_names columns names = row_from columns (map named names)

-- the first name of a subset, and its second and third
abbrev pub first_name : Column
first_name = First (descriptor 0 1 15)

abbrev pub second_name : Column
second_name = Nth (descriptor 0 1 15) 2

abbrev pub third_name : Column
third_name = Nth (descriptor 0 1 15) 3

-- a sounding: two temperatures before its three levels. The first level has two more and no wind, the
-- second a wind alone, and the third a temperature without a value, another one, and a second block
-- number
abbrev pub sounding : List Field
sounding =
    numbered block 6 ∷ numbered temperature 11 ∷ numbered temperature 12
    ∷ numbered pressure 1000 ∷ numbered temperature 13 ∷ numbered temperature 14
    ∷ numbered pressure 850 ∷ numbered wind 15
    ∷ numbered pressure 500 ∷ unsaid temperature ∷ numbered temperature 16 ∷ numbered block 7 ∷ []

-- the columns of its rows
abbrev pub sounding_columns : List Column
sounding_columns =
    First block ∷ First pressure ∷ First temperature ∷ Nth temperature 1 ∷ Nth temperature 2
    ∷ First wind ∷ Nth block 1 ∷ First absent ∷ []
