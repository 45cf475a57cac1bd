-- The rows of the subsets of a message (this project's own).
use Rattle.std.specs.Prelude.{ℕ, ◌+◌, List, [], ◌∷◌, ◌++◌, Option}
use Rattle.bufr_fields.specs.declared.field.Subset.{Subset}
use Rattle.bufr_select_rows.specs.Rows.{Origin, rows}
use Rattle.bufr_select_rows.specs.declared.column.Column.{Column}

-- the rows of subsets, from the subset of this number on
abbrev pub subsets_rows : Option ℕ → List Column → Origin → ℕ → List Subset → List ℕ
subsets_rows each columns o number [] = []
subsets_rows each columns o number (subset ∷ subsets) =
    rows columns each (record o { subset = number }) subset.fields
    ++ subsets_rows each columns o (number + 1) subsets
