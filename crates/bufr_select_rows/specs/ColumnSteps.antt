-- One more column of a text (private contracts).
use Rattle.std.specs.Prelude.{◌≡◌, ℕ, true, false, List, [], ◌∷◌, ◌++◌, Result, Ok, Err}
use Rattle.std.specs.List.{list_any}
use Rattle.std.specs.Str.{bytes_eq}
use Rattle.bufr_select_rows.specs.Columns.{IsColumn, IsNoColumn, word}
use Rattle.bufr_select_rows.specs.declared.column.Column.{Column}
use Rattle.bufr_select_rows.specs.declared.column_words.ColumnsFault.{ColumnsFault}
use Rattle.bufr_select_rows.specs.declared.column_words.ColumnsFault.TheVariants as faults

-- the column of a word comes after columns that do not have the word; or no column has it, or one of
-- them has it
abbrev pub AddsColumn : List Column → List Column → List ℕ → Result (Unit {0}) ColumnsFault → Type 0
AddsColumn old new here (Ok done) = (column : Column) × IsColumn column × (new ≡ old ++ column ∷ [])
    × (word column ≡ here) × (list_any (λ c. bytes_eq (word c) here) old ≡ false)
AddsColumn old new here (Err (faults.NoColumn said)) = (said.now ≡ here) × IsNoColumn here
AddsColumn old new here (Err (faults.Twice said)) = (said.now ≡ here)
    × (list_any (λ c. bytes_eq (word c) here) old ≡ true)
AddsColumn old new here (Err faults.OutOfMemory) = Unit {0}
