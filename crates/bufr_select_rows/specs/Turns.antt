-- Rows of turns with the same fields (private contracts): each turn is a span, and its fields are numbers.
use Rattle.std.specs.Prelude.{ℕ, zero, suc, ◌+◌, ◌-◌, ◌==◌, true, false, List, [], ◌∷◌, ◌++◌, map}
use Rattle.std.specs.Prelude.{◌≡◌, OnOk, Some, Result, slice_get, if◌then◌else◌}
use Rattle.csv.specs.Writing.{default_writer, row_text}
use Rattle.bufr_bits.specs.Devices.{Writing}
use Rattle.bufr_data.specs.Turns.{TurnsLeft, all_numbered, numbered}
use Rattle.bufr_expand.specs.declared.even_turns.CommonField.{CommonField}
use Rattle.bufr_fields.specs.declared.field.Field.{Field}
use Rattle.bufr_io.specs.HeldTexts.{PutsOrStops}
use Rattle.bufr_io.specs.declared.fault.ToolFault.{ToolFault}
use Rattle.bufr_io.specs.declared.held_rows.HeldRows.{HeldRows}
use Rattle.bufr_select_rows.specs.Cells.{noted, opened, row_of, rows_left}
use Rattle.bufr_select_rows.specs.Rows.{value_if}
use Rattle.bufr_select_rows.specs.declared.cell.Cell.{Cell}
use Rattle.bufr_select_rows.specs.declared.column.Column.{Column}
use Rattle.bufr_select_rows.specs.declared.column.Column.TheVariants as columns
use Rattle.bufr_select_rows.specs.declared.turn.TurnSource.{TurnSource}
use Rattle.bufr_select_rows.specs.declared.turn.TurnSource.TheVariants as sources

-- ---- the cells after a turn

-- the cells after fields of a span
abbrev pub after_all : List Field → List Cell → List Cell
after_all [] cells = cells
after_all (f ∷ fields) cells = after_all fields (map (noted true f) cells)

-- the cells after a turn, which opens a span
abbrev pub after_turn : List CommonField → List ℕ → List Cell → List Cell
after_turn fields numbers cells = after_all (numbered fields numbers) (map opened cells)

-- the row of a turn
abbrev pub turn_row : List CommonField → List ℕ → List Cell → List ℕ
turn_row fields numbers cells = row_of (after_turn fields numbers cells)

-- the rows of turns, given the descriptor that opens spans
abbrev pub turns_rows : ℕ → List Cell → TurnsLeft → List ℕ
turns_rows d cells turns = rows_left (Some d) cells false (all_numbered turns.fields turns.turns)

-- a front of the rows that are due was put, and then `later` is due; or putting it stopped
abbrev pub PutsFront : List ℕ → List ℕ → HeldRows → Writing → HeldRows → Writing
    → Result (Unit {0}) ToolFault → Type 0
PutsFront due later r w r' w' result = (front : List ℕ) × (rest : List ℕ)
    × PutsOrStops front r w r' w' result × (due ≡ front ++ rest) × OnOk result (rest ≡ later)

-- ---- sources

-- the text of a source in a turn
abbrev pub turn_text : List Field → Cell → TurnSource → List ℕ
turn_text turn c sources.Before = c.before
turn_text turn c (sources.Field k) = value_if (slice_get turn k)
turn_text turn c sources.Nothing = []

-- the fields from an index on: the one with this descriptor that has `ahead` others of it before it
unfoldable pub turn_from : ℕ → ℕ → ℕ → List CommonField → TurnSource
turn_from d ahead index [] = sources.Before
turn_from d ahead index (f ∷ fields) =
    if f.fxy == d
    then (if ahead == 0 then sources.Field index else turn_from d (ahead - 1) (index + 1) fields)
    else turn_from d ahead (index + 1) fields

-- the n-th of the fields with this descriptor, from 1
abbrev pub turn_nth : ℕ → ℕ → List CommonField → TurnSource
turn_nth d zero fields = sources.Nothing
turn_nth d (suc n) fields = turn_from d n 0 fields

-- the source of the cells of a column
abbrev pub turn_source : List CommonField → Column → TurnSource
turn_source fields (columns.Fact fact) = sources.Before
turn_source fields (columns.First d) = turn_nth d 1 fields
turn_source fields (columns.Nth d n) = turn_nth d n fields

-- each cell has its source
abbrev pub HaveSources : List CommonField → List Cell → List TurnSource → Type 0
HaveSources fields cells found = found ≡ map (λ c. turn_source fields c.column) cells

-- the text of a cell in a turn, by its source
abbrev pub sourced : List CommonField → List ℕ → Cell → List ℕ
sourced fields numbers c = turn_text (numbered fields numbers) c (turn_source fields c.column)

-- the row of cells in a turn, by their sources
abbrev pub sourced_row : List CommonField → List ℕ → List Cell → List ℕ
sourced_row fields numbers cells = row_text default_writer (map (sourced fields numbers) cells)
