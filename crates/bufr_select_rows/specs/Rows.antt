-- The rows of a subset, as functions of its fields (this project's own).
use Rattle.std.specs.Prelude.{ℕ, zero, suc, ◌==◌, Bool, List, [], ◌∷◌, map}
use Rattle.std.specs.Prelude.{decimal, filter, Option, Some, None, if◌then◌else◌}
use Rattle.std.specs.Prelude.{slice_get, reverse}
use Rattle.std.specs.Int.{from_bool}
use Rattle.std.specs.List.{flat_map}
use Rattle.std.specs.Option.{option_map_or}
use Rattle.csv.specs.Writing.{default_writer, row_text}
use Rattle.bufr_fields.specs.declared.field.Field.{Field}
use Rattle.bufr_sections.specs.declared.message.Head.{Head}
use Rattle.bufr_select_rows.specs.Columns.{word}
use Rattle.bufr_select_rows.specs.Values.{shown_value}
use Rattle.bufr_select_rows.specs.declared.column.Column.{Column}
use Rattle.bufr_select_rows.specs.declared.column.Column.TheVariants as columns
use Rattle.bufr_select_rows.specs.declared.origin.Origin as declared
use Rattle.bufr_select_rows.specs.declared.fact.Fact.{Fact}
use Rattle.bufr_select_rows.specs.declared.fact.Fact.TheVariants.{Input, Message, Place, Subset}
use Rattle.bufr_select_rows.specs.declared.fact.Fact.TheVariants.{Centre, SubCentre, Update}
use Rattle.bufr_select_rows.specs.declared.fact.Fact.TheVariants.{Category, International}
use Rattle.bufr_select_rows.specs.declared.fact.Fact.TheVariants.{LocalCategory, MasterVersion}
use Rattle.bufr_select_rows.specs.declared.fact.Fact.TheVariants.{LocalVersion, Year, Month, Day}
use Rattle.bufr_select_rows.specs.declared.fact.Fact.TheVariants.{Hour, Minute, Second, Observed}
use Rattle.bufr_select_rows.specs.declared.fact.Fact.TheVariants.{Compressed}

-- ---- where a row comes from

-- where a row comes from: the input, the frame in it, its place and the subset in the message; section 1
-- of the message, and the flags of its section 3
pub record Origin : Type 0 where
  pub input : ℕ
  pub message : ℕ
  pub place : ℕ
  pub subset : ℕ
  pub head : Head
  pub observed : Bool
  pub compressed : Bool

-- where the row of the program comes from
abbrev pub origin : declared.Origin → Origin
origin o = record {
  input = o.input;
  message = o.message;
  place = o.place;
  subset = o.subset;
  head = o.head.now;
  observed = o.observed;
  compressed = o.compressed;
}

-- the number of a fact about a subset as a whole
unfoldable pub told_number : Fact → Origin → ℕ
told_number Input o = o.input
told_number Message o = o.message
told_number Place o = o.place
told_number Subset o = o.subset
told_number Centre o = o.head.centre
told_number SubCentre o = o.head.sub_centre
told_number Update o = o.head.update
told_number Category o = o.head.category
told_number International o = o.head.international
told_number LocalCategory o = o.head.local_category
told_number MasterVersion o = o.head.master_version
told_number LocalVersion o = o.head.local_version
told_number Year o = o.head.year
told_number Month o = o.head.month
told_number Day o = o.head.day
told_number Hour o = o.head.hour
told_number Minute o = o.head.minute
told_number Second o = o.head.second
told_number Observed o = from_bool o.observed
told_number Compressed o = from_bool o.compressed

-- ---- fields

-- the fields with this descriptor
abbrev pub fields_with : ℕ → List Field → List Field
fields_with d fields = filter (λ f. f.fxy == d) fields

-- the n-th of the fields with this descriptor, from 1
abbrev pub nth_with : ℕ → ℕ → List Field → Option Field
nth_with d zero fields = None
nth_with d (suc n) fields = slice_get (fields_with d fields) n

-- the last of the fields with this descriptor
abbrev pub last_with : ℕ → List Field → Option Field
last_with d fields = slice_get (reverse (fields_with d fields)) 0

-- the value of a field; empty if there is none
abbrev pub value_if : Option Field → List ℕ
value_if found = option_map_or shown_value found []

-- the value of a field, or else another text
abbrev pub value_or : Option Field → List ℕ → List ℕ
value_or (Some f) other = shown_value f
value_or None other = other

-- ---- spans

-- the fields before the first with the descriptor `each`
unfoldable pub before_each : ℕ → List Field → List Field
before_each each [] = []
before_each each (f ∷ fields) = if f.fxy == each then [] else f ∷ before_each each fields

-- the spans: from each field with the descriptor `each` up to the next one, the last to the end
unfoldable pub spans : ℕ → List Field → List (List Field)
spans each [] = []
spans each (f ∷ fields) =
    if f.fxy == each then (f ∷ before_each each fields) ∷ spans each fields
    else spans each fields

-- ---- cells

-- the text of a column in a span, after the fields `before` the first span: the first field of the span
-- with the column's descriptor, or else the last before all spans; or the n-th of the span alone
abbrev pub cell_text : Origin → List Field → List Field → Column → List ℕ
cell_text o before span (columns.Fact fact) = decimal (told_number fact o)
cell_text o before span (columns.First d) =
    value_or (nth_with d 1 span) (value_if (last_with d before))
cell_text o before span (columns.Nth d n) = value_if (nth_with d n span)

-- ---- rows

-- the header line: the words of the columns
abbrev pub header : List Column → List ℕ
header columns = row_text default_writer (map word columns)

-- the row of a span
abbrev pub row : List Column → Origin → List Field → List Field → List ℕ
row columns o before span = row_text default_writer (map (cell_text o before span) columns)

-- the rows of a subset: one for all its fields; or, given `each`, one for each span
abbrev pub rows : List Column → Option ℕ → Origin → List Field → List ℕ
rows columns None o fields = row columns o [] fields
rows columns (Some each) o fields =
    flat_map (row columns o (before_each each fields)) (spans each fields)
