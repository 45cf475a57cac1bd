-- The cells of a row, as fields come one after another (private contracts): what they hold, and the text
-- of the rows that are due then. `CellLaws` ties them to `rows`.
use Rattle.std.specs.Prelude.{ℕ, zero, suc, ◌==◌, Bool, true, false, List, [], ◌∷◌, ◌++◌, map}
use Rattle.std.specs.Prelude.{◌≡◌, ◌≤◌, decimal, length, Option, Some, None, if◌then◌else◌, take}
use Rattle.std.specs.Prelude.{not, ◌&&◌}
use Rattle.std.specs.List.{list_all, list_any}
use Rattle.std.specs.Option.{option_map_or}
use Rattle.csv.specs.Writing.{default_writer, row_text}
use Rattle.bufr_fields.specs.declared.field.Field.{Field}
use Rattle.bufr_select_rows.specs.Rows.{Origin, told_number}
use Rattle.bufr_select_rows.specs.Values.{shown_value}
use Rattle.bufr_select_rows.specs.declared.cell.Cell.{Cell}
use Rattle.bufr_select_rows.specs.declared.column.Column.{Column}
use Rattle.bufr_select_rows.specs.declared.column.Column.TheVariants as columns

-- ---- a cell

-- the number of the field that a column shows, from 1
abbrev pub number_of : Column → ℕ
number_of (columns.Fact fact) = 1
number_of (columns.First d) = 1
number_of (columns.Nth d n) = n

-- a cell that was made
abbrev pub fresh : Column → Cell
fresh column = record { column = column; ahead = 0; before = []; here = [] }

-- a cell that opens a span
abbrev pub opened : Cell → Cell
opened c = record c { ahead = number_of c.column; here = [] }

-- the number of a fact, at the begin of a subset
abbrev pub told_before : Origin → Column → List ℕ
told_before o (columns.Fact fact) = decimal (told_number fact o)
told_before o (columns.First d) = []
told_before o (columns.Nth d n) = []

-- a cell that begins a subset
abbrev pub begun : Origin → Column → Cell
begun o column =
    record { column = column; ahead = number_of column; before = told_before o column; here = [] }

-- a cell after a field of the column, given how many are ahead
abbrev pub counted_at : ℕ → Field → Cell → Cell
counted_at zero f c = c
counted_at (suc zero) f c = record c { ahead = 0; here = shown_value f }
counted_at (suc (suc n)) f c = record c { ahead = suc n }

-- a cell after a field of the column in a span
abbrev pub counted : Field → Cell → Cell
counted f c = counted_at c.ahead f c

-- a cell after a field before all spans
abbrev pub put_before : Field → Cell → Cell
put_before f c = record c { before = shown_value f }

-- a cell after a field in a span, or before all spans
abbrev pub noted_by : Column → Bool → Field → Cell → Cell
noted_by (columns.Fact fact) in_span f c = c
noted_by (columns.First d) true f c = if f.fxy == d then counted f c else c
noted_by (columns.First d) false f c = if f.fxy == d then put_before f c else c
noted_by (columns.Nth d n) true f c = if f.fxy == d then counted f c else c
noted_by (columns.Nth d n) false f c = c

-- a cell after a field, whatever its descriptor
abbrev pub noted : Bool → Field → Cell → Cell
noted in_span f c = noted_by c.column in_span f c

-- whether no later field of a span changes the text of a cell, by its column
abbrev pub settled_by : Column → Cell → Bool
settled_by (columns.Fact fact) c = true
settled_by (columns.First d) c = c.ahead == 0
settled_by (columns.Nth d n) c = c.ahead == 0

-- whether no later field of a span changes the text of a cell
abbrev pub is_settled : Cell → Bool
is_settled c = settled_by c.column c

-- no later field of a span changes the texts of the first n cells
abbrev pub AreSettled : ℕ → List Cell → Type 0
AreSettled n cells = list_all is_settled (take n cells) ≡ true

-- the text of a cell, given how many fields are ahead
abbrev pub shown_at : ℕ → Cell → List ℕ
shown_at zero c = c.here
shown_at (suc n) c = c.before

-- the text of a cell
abbrev pub shown : Cell → List ℕ
shown c = shown_at c.ahead c

-- ---- all cells of a row

-- the row of cells
abbrev pub row_of : List Cell → List ℕ
row_of cells = row_text default_writer (map shown cells)

-- the row that is due when a span ends
abbrev pub ended : Bool → List Cell → List ℕ
ended true cells = row_of cells
ended false cells = []

-- whether a field opens a span
abbrev pub opens : Option ℕ → Field → Bool
opens each f = option_map_or (λ d. f.fxy == d) each false

-- whether a span is open before the first field
abbrev pub opens_at_once : Option ℕ → Bool
opens_at_once None = true
opens_at_once (Some each) = false

-- whether a column asks for the fields with a descriptor
abbrev pub asks_for : ℕ → Column → Bool
asks_for d (columns.Fact fact) = false
asks_for d (columns.First e) = d == e
asks_for d (columns.Nth e n) = d == e

-- whether a cell waits for a field with a descriptor
abbrev pub waits_for : ℕ → Cell → Bool
waits_for d c = not (is_settled c) && asks_for d c.column

-- whether one of the cells waits for a field with a descriptor
abbrev pub is_awaited : List Cell → ℕ → Bool
is_awaited cells d = list_any (waits_for d) cells

-- the rows that are still due, given the cells, whether a span is open, and the fields that are left
unfoldable pub rows_left : Option ℕ → List Cell → Bool → List Field → List ℕ
rows_left each cells in_span [] = ended in_span cells
rows_left each cells in_span (f ∷ fields) =
    if opens each f
    then ended in_span cells ++ rows_left each (map (noted true f) (map opened cells)) true fields
    else rows_left each (map (noted in_span f) cells) in_span fields

-- the row that is due at a field
abbrev pub due : Option ℕ → Bool → List Cell → Field → List ℕ
due each in_span cells f = if opens each f then ended in_span cells else []

-- the cells after a field
abbrev pub after_field : Option ℕ → Bool → List Cell → Field → List Cell
after_field each in_span cells f =
    if opens each f then map (noted true f) (map opened cells) else map (noted in_span f) cells

-- some fields were noted, with no row due: with the fields `mid` that are left the same rows are due
abbrev pub NotesUpTo : Option ℕ → Bool → List Cell → List Field → List Cell → List Field → Type 0
NotesUpTo each in_span cells fields cells' mid =
    (rows_left each cells in_span fields ≡ rows_left each cells' in_span mid)
    × (map (λ c. c.column) cells' ≡ map (λ c. c.column) cells) × (length mid ≤ length fields)
