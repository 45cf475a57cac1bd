-- Sources of the cells of compressed data (private contracts): all subsets of a message share their columns.
use Rattle.std.specs.Prelude.{ℕ, zero, suc, ◌+◌, ◌-◌, ◌==◌, List, [], ◌∷◌, map, decimal, Option}
use Rattle.std.specs.Prelude.{◌≡◌, IfSome, length, slice_get, if◌then◌else◌}
use Rattle.csv.specs.Writing.{default_writer, row_text}
use Rattle.bufr_fields.specs.declared.field.Field.{Field}
use Rattle.bufr_fields.specs.declared.field.Subset.{Subset}
use Rattle.bufr_data.specs.Compressed.{subset_of}
use Rattle.bufr_data.specs.Compressed.{Column as DataColumn}
use Rattle.bufr_data.specs.Compressed.Indexed.{Indexed}
use Rattle.bufr_select_rows.specs.Rows.{Origin, rows, told_number, value_if}
use Rattle.bufr_select_rows.specs.declared.column.Column.{Column}
use Rattle.bufr_select_rows.specs.declared.column.Column.TheVariants as columns
use Rattle.bufr_select_rows.specs.declared.source.Source.{Source}
use Rattle.bufr_select_rows.specs.declared.source.Source.TheVariants as sources

-- the text of a source for the fields of a subset
abbrev pub source_text : Origin → List Field → Source → List ℕ
source_text o fields (sources.Fact fact) = decimal (told_number fact o)
source_text o fields (sources.Field k) = value_if (slice_get fields k)
source_text o fields sources.Nothing = []

-- the columns from an index on: the one with this descriptor that has `ahead` others of it before it
unfoldable pub source_from : ℕ → ℕ → ℕ → List DataColumn → Source
source_from d ahead index [] = sources.Nothing
source_from d ahead index (c ∷ cs) =
    if c.fxy == d
    then (if ahead == 0 then sources.Field index else source_from d (ahead - 1) (index + 1) cs)
    else source_from d ahead (index + 1) cs

-- the n-th of the columns with this descriptor, from 1
abbrev pub source_nth : ℕ → ℕ → List DataColumn → Source
source_nth d zero cs = sources.Nothing
source_nth d (suc n) cs = source_from d n 0 cs

-- the source of the cells of a column
abbrev pub source_of : List DataColumn → Column → Source
source_of cs (columns.Fact fact) = sources.Fact fact
source_of cs (columns.First d) = source_nth d 1 cs
source_of cs (columns.Nth d n) = source_nth d n cs

-- the row of sources in the subset at an index, from 0
abbrev pub source_row : List Source → Origin → List DataColumn → ℕ → List ℕ
source_row sources o cs i = row_text default_writer (map (source_text o (subset_of cs i).fields) sources)

-- the rows of sources are those of the subsets
abbrev pub HaveRows : Option ℕ → List Column → List Source → List Subset → Indexed → Type 0
HaveRows each columns sources subsets found = (found.subsets ≡ length subsets)
    × ((o : Origin) (i : ℕ) → IfSome (slice_get subsets i) (λ s.
    source_row sources o found.columns i ≡ rows columns each o s.fields))
