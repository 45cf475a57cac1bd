-- Files of Tables B and D as relations: which columns the header has, what each record is, which
-- rows a file has, and which fault is its first (this project's format).
use Rattle.std.specs.Prelude.{ℕ, ◌+◌, ◌<◌, ◌≡◌, ◌≢◌, ◌⊎◌, ◌↔◌, List, [], ◌∷◌, ◌++◌, length, map}
use Rattle.std.specs.Prelude.{get_or, flat_map, All, Contains, Option, Some, None}
use Rattle.std.specs.List.{AllZip}
use Rattle.bufr_tables.specs.declared.element.Element.{Element}
use Rattle.bufr_tables.specs.declared.table_faults.Column.{Column}
use Rattle.bufr_tables.specs.declared.table_faults.TableFault.{TableFault}
use Rattle.bufr_tables.specs.declared.table_faults.TableFault.TheVariants.{NoColumn, NotCsv, BadRow}
use Rattle.bufr_tables.specs.declared.table_faults.TableFault.TheVariants.{Conflict, SplitSequence}
use Rattle.bufr_tables.specs.Entries.{Rising}
use Rattle.bufr_tables.specs.Fields.{Record, used_fields}
use Rattle.bufr_tables.specs.Rows.{element_row, member_row}
use Rattle.bufr_tables.specs.Titles.{title}
use Rattle.bufr_tables.specs.TableFiles.{cells_at, header_of, rows_of, columns_b, columns_d}

-- ---- the columns

-- a header has a column if one of its fields is the title
abbrev pub HasColumn : Record → Column → Type 0
HasColumn header column = Contains header (title column)

-- the column is at the first field with its title
abbrev pub StandsAt : Record → Column → ℕ → Type 0
StandsAt header column place =
    (place < length header) × (get_or header place [] ≡ title column)
    × ((k : ℕ) → k < place → get_or header k [] ≢ title column)

-- the first needed column that a header lacks
abbrev pub IsFirstAbsent : Record → List Column → Column → Type 0
IsFirstAbsent header needed column =
    (before : List Column) × (behind : List Column) × (needed ≡ before ++ column ∷ behind)
    × All (HasColumn header) before × (HasColumn header column → ⊥)

-- ---- a record after the header, with the needed columns at these places

-- the record and the header differ in their number of fields
abbrev pub IsNotCsv : Record → Record → Type 0
IsNotCsv header raw = length raw ≢ length header

-- the record repeats the header, or all its needed fields are empty
abbrev pub TellsNothing : Record → List ℕ → Record → Type 0
TellsNothing header places raw =
    (used_fields raw ≡ header) ⊎ All (λ text. text ≡ []) (cells_at (used_fields raw) places)

-- a skipped record: as long as the header, but with nothing to read
abbrev pub IsSkipped : Record → List ℕ → Record → Type 0
IsSkipped header places raw = (length raw ≡ length header) × TellsNothing header places raw

-- a record that is a row of the table
abbrev pub IsRow : {R : Type 0} → (Record → Option R) → Record → List ℕ → Record → R → Type 0
IsRow row_of header places raw row =
    (length raw ≡ length header) × (TellsNothing header places raw → ⊥)
    × (row_of (cells_at (used_fields raw) places) ≡ Some row)

-- a record whose needed fields are no row
abbrev pub IsBadRow : {R : Type 0} → (Record → Option R) → Record → List ℕ → Record → Type 0
IsBadRow row_of header places raw =
    (length raw ≡ length header) × (TellsNothing header places raw → ⊥)
    × (row_of (cells_at (used_fields raw) places) ≡ None)

-- ---- a file

-- each record is skipped or a row, and these are the rows in order
pub data AreRows {R : Type 0} (row_of : Record → Option R) (header : Record) (places : List ℕ)
    : List Record → List R → Type 0 where
  no_record : AreRows row_of header places [] []
  skipped_first : {raw : Record} {behind : List Record} {rows : List R}
      → IsSkipped header places raw
      → AreRows row_of header places behind rows
      → AreRows row_of header places (raw ∷ behind) rows
  row_first : {raw : Record} {behind : List Record} {row : R} {rows : List R}
      → IsRow row_of header places raw row
      → AreRows row_of header places behind rows
      → AreRows row_of header places (raw ∷ behind) (row ∷ rows)

-- the rows of a file whose header has the needed columns
pub record HasRows {R : Type 0} (needed : List Column) (row_of : Record → Option R)
    (file : List Record) (rows : List R) : Type 0 where
  pub places : List ℕ
  pub columns : AllZip (StandsAt (header_of file)) needed places
  pub behind : AreRows row_of (header_of file) places (rows_of file) rows

-- the records before record n are a table, so its fault can be the first; the header is record 1
pub record IsReached {T : Type 0} (IsTable : List Record → T → Type 0)
    (file : List Record) (n : ℕ) : Type 0 where
  pub before : List Record
  pub raw : Record
  pub behind : List Record
  pub splits : file ≡ before ++ raw ∷ behind
  pub number : n ≡ length before + 1
  pub table : T
  pub is_table : IsTable before table

-- lists with the same members
abbrev pub SameMembers : {X : Type 0} → List X → List X → Type 0
SameMembers {X} xs ys = (x : X) → Contains xs x ↔ Contains ys x

-- ---- Table B

-- the elements of a file are its rows, ascending by descriptor: equal rows are one, and no two rows
-- of a descriptor differ (FM 94 BUFR, Table B)
pub record AreElementRows (file : List Record) (elements : List (ℕ × Element)) : Type 0 where
  pub in_order : List (ℕ × Element)
  pub rows : HasRows columns_b element_row file in_order
  pub rising : Rising elements
  pub same : SameMembers elements in_order

-- the first fault of a file: a column that its header lacks, or else a record after records that
-- are a table; it is not CSV, no row, or a row whose descriptor has another element before
abbrev pub IsFirstElementFault : List Record → TableFault → Type 0
IsFirstElementFault file (NoColumn column) = IsFirstAbsent (header_of file) columns_b column
IsFirstElementFault file (NotCsv n) =
    (here : IsReached AreElementRows file n) × IsNotCsv (header_of here.before) here.raw
IsFirstElementFault file (BadRow n) =
    (here : IsReached AreElementRows file n)
    × IsBadRow element_row (header_of here.before) here.is_table.rows.places here.raw
IsFirstElementFault file (Conflict d) =
    (n : ℕ) × (here : IsReached AreElementRows file n) × (e : Element) × (old : Element)
    × IsRow element_row (header_of here.before) here.is_table.rows.places here.raw (d, e)
    × Contains here.table (d, old) × (old ≢ e)
IsFirstElementFault file (SplitSequence d) = ⊥

-- ---- Table D

-- each sequence has members, and no two sequences have one descriptor
abbrev pub AreGroups : List (ℕ × List ℕ) → Type 0
AreGroups [] = Unit {0}
AreGroups (g ∷ groups) = (g.1 ≢ []) × All (λ other. other.0 ≢ g.0) groups × AreGroups groups

-- the rows of all sequences, in order
abbrev pub written_out : List (ℕ × List ℕ) → List (ℕ × ℕ)
written_out groups = flat_map (λ g. map (λ m. (g.0, m)) g.1) groups

-- the sequences of a file: the rows of each are together and name its members in order; the
-- sequences ascend by descriptor (FM 94 BUFR, Table D)
pub record AreSequenceRows (file : List Record) (sequences : List (ℕ × List ℕ)) : Type 0 where
  pub groups : List (ℕ × List ℕ)
  pub apart : AreGroups groups
  pub rows : HasRows columns_d member_row file (written_out groups)
  pub rising : Rising sequences
  pub same : SameMembers sequences groups

-- the first fault of a file: a column that its header lacks, or else a record after records that
-- are a table; it is not CSV, no row, or a row of a sequence that ended before
abbrev pub IsFirstSequenceFault : List Record → TableFault → Type 0
IsFirstSequenceFault file (NoColumn column) = IsFirstAbsent (header_of file) columns_d column
IsFirstSequenceFault file (NotCsv n) =
    (here : IsReached AreSequenceRows file n) × IsNotCsv (header_of here.before) here.raw
IsFirstSequenceFault file (BadRow n) =
    (here : IsReached AreSequenceRows file n)
    × IsBadRow member_row (header_of here.before) here.is_table.rows.places here.raw
IsFirstSequenceFault file (Conflict d) = ⊥
IsFirstSequenceFault file (SplitSequence d) =
    (n : ℕ) × (here : IsReached AreSequenceRows file n) × (m : ℕ) × (k : ℕ)
    × (rows : List (ℕ × ℕ)) × (last : ℕ × ℕ)
    × IsRow member_row (header_of here.before) here.is_table.rows.places here.raw (d, m)
    × (written_out here.is_table.groups ≡ rows ++ last ∷ []) × (last.0 ≢ d) × Contains rows (d, k)
