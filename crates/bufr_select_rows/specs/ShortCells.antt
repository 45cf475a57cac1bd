-- Short numbers in the cells of a row (private contracts): a cell takes one as it takes its field.
use Rattle.std.specs.Prelude.{ℕ, zero, suc, ◌==◌, List, [], decimal, Option, Some, None, if◌then◌else◌}
use Rattle.bufr_data.specs.declared.short.ShortNumber.{ShortNumber}
use Rattle.bufr_select_rows.specs.declared.cell.Cell.{Cell}
use Rattle.bufr_select_rows.specs.declared.column.Column.{Column}
use Rattle.bufr_select_rows.specs.declared.column.Column.TheVariants as columns

-- the digits of a number, if there is one
abbrev pub digits_of : Option ℕ → List ℕ
digits_of None = []
digits_of (Some n) = decimal n

-- the text of a short number: empty if it is missing
abbrev pub short_text : ShortNumber → List ℕ
short_text s = digits_of s.number

-- a cell after a short number of the column, given how many fields are ahead
abbrev pub counted_short_at : ℕ → ShortNumber → Cell → Cell
counted_short_at zero s c = c
counted_short_at (suc zero) s c = record c { ahead = 0; here = short_text s }
counted_short_at (suc (suc n)) s c = record c { ahead = suc n }

-- a cell after a short number of the column in a span
abbrev pub counted_short : ShortNumber → Cell → Cell
counted_short s c = counted_short_at c.ahead s c

-- a short number in a span
abbrev pub noted_short_by : Column → ShortNumber → Cell → Cell
noted_short_by (columns.Fact fact) s c = c
noted_short_by (columns.First d) s c = if s.fxy == d then counted_short s c else c
noted_short_by (columns.Nth d n) s c = if s.fxy == d then counted_short s c else c

-- a cell after a short number, whatever its descriptor
abbrev pub noted_short : ShortNumber → Cell → Cell
noted_short s c = noted_short_by c.column s c
