-- Texts in the cells of a row (private contracts): a cell takes the octets of one as it takes its field.
use Rattle.std.specs.Prelude.{ℕ, zero, suc, ◌==◌, ◌&&◌, Bool, not, List, [], if◌then◌else◌}
use Rattle.std.specs.List.{list_all}
use Rattle.csv.specs.Writing.{default_writer, needs_byte}
use Rattle.bufr_select_rows.specs.Values.{is_shown_as_itself, shown_text, trimmed}
use Rattle.bufr_select_rows.specs.declared.cell.Cell.{Cell}
use Rattle.bufr_select_rows.specs.declared.column.Column.{Column}
use Rattle.bufr_select_rows.specs.declared.column.Column.TheVariants as columns

-- the text of octets: empty if all bits are one (94.1.5)
abbrev pub shown_octets : List ℕ → List ℕ
shown_octets octets = if list_all (λ x. x == 255) octets then [] else shown_text (trimmed octets)

-- whether a text shows an octet as itself, and its field needs no quotes for it
abbrev pub is_plain : ℕ → Bool
is_plain c = is_shown_as_itself c && not (needs_byte default_writer c)

-- a cell after a text of the column, given how many fields are ahead
abbrev pub counted_text_at : ℕ → List ℕ → Cell → Cell
counted_text_at zero octets c = c
counted_text_at (suc zero) octets c = record c { ahead = 0; here = shown_octets octets }
counted_text_at (suc (suc n)) octets c = record c { ahead = suc n }

-- a cell after a text of the column in a span
abbrev pub counted_text : List ℕ → Cell → Cell
counted_text octets c = counted_text_at c.ahead octets c

-- a text in a span
abbrev pub noted_text_by : Column → ℕ → List ℕ → Cell → Cell
noted_text_by (columns.Fact fact) fxy octets c = c
noted_text_by (columns.First d) fxy octets c = if fxy == d then counted_text octets c else c
noted_text_by (columns.Nth d n) fxy octets c = if fxy == d then counted_text octets c else c

-- a cell after a text, whatever its descriptor
abbrev pub noted_text : ℕ → List ℕ → Cell → Cell
noted_text fxy octets c = noted_text_by c.column fxy octets c
