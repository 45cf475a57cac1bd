-- Tables B and D read from the records of a CSV file in order, with the first fault (FM 94 BUFR,
-- Tables B and D).
use Rattle.std.specs.Prelude.{ℕ, ◌≡◌, ◌+◌, ◌==◌, ◌||◌, not, Bool, List, [], ◌∷◌, length, map}
use Rattle.std.specs.Prelude.{get_or, bytes_eq, Option, Some, None, position, Result, Ok}
use Rattle.std.specs.Prelude.{Err, if◌then◌else◌}
use Rattle.std.specs.List.{list_all}
use Rattle.std.specs.Cmp.Lexicographic.{pointwise}
use Rattle.csv.specs.Reading.{records, default_config, strip_bom}
use Rattle.bufr_base.specs.Answers.{◌>>=◌}
use Rattle.bufr_tables.specs.declared.element.Element.{Element}
use Rattle.bufr_tables.specs.declared.table_faults.Column.{Column}
use Rattle.bufr_tables.specs.declared.table_faults.Column.TheVariants as columns
use Rattle.bufr_tables.specs.declared.table_faults.TableFault.{TableFault}
use Rattle.bufr_tables.specs.declared.table_faults.TableFault.TheVariants.{NoColumn, NotCsv, BadRow}
use Rattle.bufr_tables.specs.ElementJoins.{with_element}
use Rattle.bufr_tables.specs.Titles.{title}
use Rattle.bufr_tables.specs.Fields.{used_fields}
use Rattle.bufr_tables.specs.Rows.{element_row, member_row, with_member, no_sequences}
use Rattle.bufr_tables.specs.Rows.{all_sequences}

-- ---- the header

-- the index of a column, or the fault that the header lacks it
abbrev pub found_or_absent : Column → Option ℕ → Result ℕ TableFault
found_or_absent column None = Err (NoColumn column)
found_or_absent column (Some i) = Ok i

-- the index of the first column with a title
abbrev pub column_at : List (List ℕ) → Column → Result ℕ TableFault
column_at header column =
    found_or_absent column (position (λ name. bytes_eq name (title column)) header)

-- the indexes of the needed columns, or the first one missing
abbrev pub columns_at : List (List ℕ) → List Column → Result (List ℕ) TableFault
columns_at header [] = Ok []
columns_at header (c ∷ cs) = column_at header c >>= λ i. columns_at header cs >>= λ is. Ok (i ∷ is)

-- ---- records

-- the cells of the needed columns
abbrev pub cells_at : List (List ℕ) → List ℕ → List (List ℕ)
cells_at fields places = map (λ i. get_or fields i []) places

-- whether a record repeats the header or has only empty cells in the needed columns
abbrev pub is_skipped : List (List ℕ) → List (List ℕ) → List ℕ → Bool
is_skipped header fields places =
    pointwise bytes_eq fields header
    || list_all (λ text. length text == 0) (cells_at fields places)

-- the cells of record n, none if it is skipped; each record has as many fields as the header
unfoldable pub row_cells : List (List ℕ) → List ℕ → ℕ → List (List ℕ)
    → Result (Option (List (List ℕ))) TableFault
row_cells header places n raw =
    if not (length raw == length header) then Err (NotCsv n)
    else if is_skipped header (used_fields raw) places then Ok None
    else Ok (Some (cells_at (used_fields raw) places))

-- a row, or the fault that record n is none
abbrev pub row_or_bad : {R : Type 0} → ℕ → Option R → Result R TableFault
row_or_bad n None = Err (BadRow n)
row_or_bad n (Some row) = Ok row

-- adds the row of some cells; a skipped record adds nothing
abbrev pub joined : {A R : Type 0} → (List (List ℕ) → Option R) → (A → R → Result A TableFault)
    → ℕ → A → Option (List (List ℕ)) → Result A TableFault
joined row_of add n so_far None = Ok so_far
joined row_of add n so_far (Some cells) = row_or_bad n (row_of cells) >>= add so_far

-- adds record n
abbrev pub after_record : {A R : Type 0}
    → (List (List ℕ) → Option R) → (A → R → Result A TableFault)
    → List (List ℕ) → List ℕ → ℕ → List (List ℕ) → A → Result A TableFault
after_record row_of add header places n raw so_far =
    row_cells header places n raw >>= joined row_of add n so_far

-- adds the records from n on
unfoldable pub after_records : {A R : Type 0}
    → (List (List ℕ) → Option R) → (A → R → Result A TableFault)
    → List (List ℕ) → List ℕ → ℕ → List (List (List ℕ)) → A → Result A TableFault
after_records row_of add header places n [] so_far = Ok so_far
after_records row_of add header places n (raw ∷ rest) so_far =
    after_record row_of add header places n raw so_far
    >>= after_records row_of add header places (n + 1) rest

-- ---- files

-- the header of a file: its first record; a file without records has an empty header
abbrev pub header_of : List (List (List ℕ)) → List (List ℕ)
header_of [] = []
header_of (raw ∷ rest) = used_fields raw

-- the records after the header
abbrev pub rows_of : List (List (List ℕ)) → List (List (List ℕ))
rows_of [] = []
rows_of (raw ∷ rest) = rest

-- takes the header off the records; without records the header is empty
abbrev pub TakesHeader :
    List (List (List ℕ)) → List (List ℕ) → List (List (List ℕ)) → Type 0
TakesHeader [] raw left = raw ≡ []
TakesHeader (first ∷ rest) raw left = (raw ≡ first) × (left ≡ rest)

-- adds all records of a file to nothing
abbrev pub after_file : {A R : Type 0}
    → List Column → (List (List ℕ) → Option R) → (A → R → Result A TableFault)
    → A → List (List (List ℕ)) → Result A TableFault
after_file needed row_of add none file =
    columns_at (header_of file) needed
    >>= λ places. after_records row_of add (header_of file) places 2 (rows_of file) none

-- the records of a text by `csv`, with commas, double quotes and line ends
abbrev pub records_of : List ℕ → List (List (List ℕ))
records_of text = records default_config (strip_bom text)

-- the columns that Table B needs
abbrev pub columns_b : List Column
columns_b =
    columns.Fxy ∷ columns.Unit ∷ columns.Scale ∷ columns.ReferenceValue ∷ columns.DataWidth ∷ []

-- the columns that Table D needs
abbrev pub columns_d : List Column
columns_d = columns.Fxy1 ∷ columns.Fxy2 ∷ []

-- Table B of a file: each descriptor with its element
abbrev pub table_b : List ℕ → Result (List (ℕ × Element)) TableFault
table_b text = after_file columns_b element_row with_element [] (records_of text)

-- Table D of a file: each sequence with its descriptors, in the order of the rows
abbrev pub table_d : List ℕ → Result (List (ℕ × List ℕ)) TableFault
table_d text =
    after_file columns_d member_row with_member no_sequences (records_of text)
    >>= λ all. Ok (all_sequences all)
