-- The rows that cells make, field by field, are the rows of the subset: what the contract of the engine
-- needs.
use Rattle.std.proofs.Common.{◌≡◌, ℕ, zero, suc, ◌==◌, ◌||◌, Bool, true, false, List, [], ◌∷◌, ◌++◌, map}
use Rattle.std.proofs.Common.{Option, Some, None, cond, reverse, refl, sym, ap, ◌∙◌, append_assoc}
use Rattle.std.specs.List.{AllByRecursion, flat_map, slice_get}
use Rattle.std.proofs.lemmas.Bool.{eqb-true}
use Rattle.std.proofs.lemmas.List.{append-nil, reverse-append}
use Rattle.std.proofs.lemmas.List.Elements.{filter-append}
use Rattle.csv.specs.Writing.{default_writer, row_text}
use Rattle.bufr_fields.specs.declared.field.Field.{Field}
use Rattle.bufr_select_rows.specs.Cells.{after_field, asks_for, begun, counted, counted_at, due, ended, noted}
use Rattle.bufr_select_rows.specs.Cells.{noted_by, opened, opens, opens_at_once, put_before, row_of, rows_left, shown}
use Rattle.bufr_select_rows.specs.Cells.{shown_at, told_before}
use Rattle.bufr_select_rows.specs.Asks.{Covers, CoversColumn, CoversEach}
use Rattle.bufr_select_rows.specs.Rows.{Origin, before_each, cell_text, fields_with, last_with, row}
use Rattle.bufr_select_rows.specs.Rows.{rows, spans, value_if, value_or}
use Rattle.bufr_select_rows.specs.Values.{shown_value}
use Rattle.bufr_select_rows.specs.declared.cell.Cell.{Cell}
use Rattle.bufr_select_rows.specs.declared.column.Column.{Column}
use Rattle.bufr_select_rows.specs.declared.column.Column.TheVariants as columns

-- ---- lists

-- one function after another
pub map_twice : {A B C : Type 0} (h : B → C) (g : A → B) (xs : List A)
    → map h (map g xs) ≡ map (λ x. h (g x)) xs
map_twice h g [] = refl
map_twice h g (x ∷ xs) = ap (λ ys. h (g x) ∷ ys) (map_twice h g xs)

-- functions that agree
map_same : {A B : Type 0} (h g : A → B) → ((x : A) → h x ≡ g x) → (xs : List A)
    → map h xs ≡ map g xs
map_same h g same [] = refl
map_same h g same (x ∷ xs) =
    ap (λ y. y ∷ map h xs) (same x) ∙ ap (λ ys. g x ∷ ys) (map_same h g same xs)

-- ---- the text of a cell, given the fields that are left of its span

-- the fields of a column
abbrev pub matching : Column → List Field → List Field
matching (columns.Fact fact) fields = []
matching (columns.First d) fields = fields_with d fields
matching (columns.Nth d n) fields = fields_with d fields

-- the text of a cell after more fields of its column, by the number that is ahead
abbrev pub left_at : ℕ → List Field → List ℕ → List ℕ → List ℕ
left_at zero fields before here = here
left_at (suc n) fields before here = value_or (slice_get fields n) before

-- so it is of the cell
abbrev pub text_with : Cell → List Field → List ℕ
text_with c fields = left_at c.ahead fields c.before c.here

-- the text of a cell after more fields
abbrev pub left_text : Cell → List Field → List ℕ
left_text c fields = text_with c (matching c.column fields)

-- a field of the column
counted_left : (n : ℕ) (f : Field) (fields : List Field) (c : Cell) → c.ahead ≡ n
    → text_with (counted_at n f c) fields ≡ left_at n (f ∷ fields) c.before c.here
counted_left zero f fields c is = ap (λ k. left_at k fields c.before c.here) is
counted_left (suc zero) f fields c is = refl
counted_left (suc (suc n)) f fields c is = refl

-- or of another one
counted_if : (is : Bool) (f : Field) (fields : List Field) (c : Cell)
    → text_with (cond is (counted f c) c) fields ≡ text_with c (cond is (f ∷ fields) fields)
counted_if true f fields c = counted_left c.ahead f fields c refl
counted_if false f fields c = refl

-- a field, by the column
noted_left : (column : Column) (f : Field) (fields : List Field) (c : Cell)
    → text_with (noted_by column true f c) (matching column fields)
    ≡ text_with c (matching column (f ∷ fields))
noted_left (columns.Fact fact) f fields c = refl
noted_left (columns.First d) f fields c = counted_if (f.fxy == d) f (fields_with d fields) c
noted_left (columns.Nth d n) f fields c = counted_if (f.fxy == d) f (fields_with d fields) c

-- ---- what of a cell stays

-- the column
counted_column : (n : ℕ) (f : Field) (c : Cell) → (counted_at n f c).column ≡ c.column
counted_column zero f c = refl
counted_column (suc zero) f c = refl
counted_column (suc (suc n)) f c = refl

-- the text before all spans
counted_before : (n : ℕ) (f : Field) (c : Cell) → (counted_at n f c).before ≡ c.before
counted_before zero f c = refl
counted_before (suc zero) f c = refl
counted_before (suc (suc n)) f c = refl

-- so they do if the field is of the column
column_if : (is : Bool) (f : Field) (c : Cell) → (cond is (counted f c) c).column ≡ c.column
column_if true f c = counted_column c.ahead f c
column_if false f c = refl

before_if : (is : Bool) (f : Field) (c : Cell) → (cond is (counted f c) c).before ≡ c.before
before_if true f c = counted_before c.ahead f c
before_if false f c = refl

-- a field in a span
pub noted_column : (column : Column) (f : Field) (c : Cell)
    → (noted_by column true f c).column ≡ c.column
noted_column (columns.Fact fact) f c = refl
noted_column (columns.First d) f c = column_if (f.fxy == d) f c
noted_column (columns.Nth d n) f c = column_if (f.fxy == d) f c

pub noted_before : (column : Column) (f : Field) (c : Cell)
    → (noted_by column true f c).before ≡ c.before
noted_before (columns.Fact fact) f c = refl
noted_before (columns.First d) f c = before_if (f.fxy == d) f c
noted_before (columns.Nth d n) f c = before_if (f.fxy == d) f c

-- a field of a span is one that was left
pub left_noted : (f : Field) (fields : List Field) (c : Cell)
    → left_text (noted true f c) fields ≡ left_text c (f ∷ fields)
left_noted f fields c =
    ap (λ column. text_with (noted true f c) (matching column fields)) (noted_column c.column f c)
    ∙ noted_left c.column f fields c

-- with no field left it is what the cell shows
none_matching : (column : Column) → matching column [] ≡ []
none_matching (columns.Fact fact) = refl
none_matching (columns.First d) = refl
none_matching (columns.Nth d n) = refl

none_left_at : (n : ℕ) (c : Cell) → left_at n [] c.before c.here ≡ shown_at n c
none_left_at zero c = refl
none_left_at (suc n) c = refl

pub none_left : (c : Cell) → left_text c [] ≡ shown c
none_left c =
    ap (λ fields. text_with c fields) (none_matching c.column) ∙ none_left_at c.ahead c

-- ---- a span

-- the text of a column whose span has no field of it
abbrev before_text : Origin → List Field → Column → List ℕ
before_text o before (columns.Fact fact) = told_before o (columns.Fact fact)
before_text o before (columns.First d) = value_if (last_with d before)
before_text o before (columns.Nth d n) = []

-- a value, or none
value_or-none : (found : Option Field) → value_or found [] ≡ value_if found
value_or-none None = refl
value_or-none (Some f) = refl

-- the n-th field of a span alone
nth_left : (d n : ℕ) (span : List Field) (o : Origin) (before : List Field)
    → left_at n (fields_with d span) [] [] ≡ cell_text o before span (columns.Nth d n)
nth_left d zero span o before = refl
nth_left d (suc n) span o before = value_or-none (slice_get (fields_with d span) n)

-- the fields of a span are left when it opens
span_left : (column : Column) (o : Origin) (before span : List Field) (text : List ℕ) (c : Cell)
    → c.column ≡ column → c.before ≡ before_text o before column
    → left_at (opened c).ahead (matching column span) c.before [] ≡ cell_text o before span column
span_left (columns.Fact fact) o before span text c is told =
    ap (λ (x : Column). left_at (opened (record c { column = x })).ahead [] c.before []) is ∙ told
span_left (columns.First d) o before span text c is told =
    ap (λ (x : Column). left_at (opened (record c { column = x })).ahead (fields_with d span)
    c.before []) is
    ∙ ap (λ t. value_or (slice_get (fields_with d span) 0) t) told
span_left (columns.Nth d n) o before span text c is told =
    ap (λ (x : Column). left_at (opened (record c { column = x })).ahead (fields_with d span)
    c.before []) is
    ∙ ap (λ t. left_at n (fields_with d span) t []) told
    ∙ nth_left d n span o before

-- so the text of an opened cell is that of its column in the span
opened_left : (o : Origin) (before span : List Field) (column : Column) (c : Cell)
    → c.column ≡ column → c.before ≡ before_text o before column
    → left_text (opened c) span ≡ cell_text o before span column
opened_left o before span column c is told =
    ap (λ x. left_at (opened c).ahead (matching x span) c.before []) is
    ∙ span_left column o before span [] c is told

-- ---- the rows of spans

module _ (o : Origin) (all : List Column) (each : ℕ) where
  -- the cells have their columns, and the texts before all spans
  abbrev Stand : List Field → (Column → Cell) → Type 0
  Stand before g = (c : Column) → ((g c).column ≡ c) × ((g c).before ≡ before_text o before c)

  -- so they do after a field in a span
  stand_noted : (before : List Field) (g : Column → Cell) (f : Field) → Stand before g
      → Stand before (λ c. noted true f (g c))
  stand_noted before g f stand c = (
    noted_column (g c).column f (g c) ∙ (stand c).0,
    noted_before (g c).column f (g c) ∙ (stand c).1,
  )

  -- and when a span opens
  stand_opened : (before : List Field) (g : Column → Cell) → Stand before g
      → Stand before (λ c. opened (g c))
  stand_opened before g stand c = ((stand c).0, (stand c).1)

  -- the row of cells, given the fields that are left of the span
  abbrev row_left : (Column → Cell) → List Field → List ℕ
  row_left g fields = row_text default_writer (map (λ c. left_text (g c) fields) all)

  -- with none left
  row_none : (g : Column → Cell) → row_of (map g all) ≡ row_left g []
  row_none g =
      ap (row_text default_writer)
      (map_twice shown g all
      ∙ map_same (λ c. shown (g c)) (λ c. left_text (g c) []) (λ c. sym (none_left (g c))) all)

  -- with one more
  row_more : (g : Column → Cell) (f : Field) (fields : List Field)
      → row_left (λ c. noted true f (g c)) fields ≡ row_left g (f ∷ fields)
  row_more g f fields =
      ap (row_text default_writer)
      (map_same (λ c. left_text (noted true f (g c)) fields) (λ c. left_text (g c) (f ∷ fields))
      (λ c. left_noted f fields (g c)) all)

  -- with the whole span
  row_span : (before : List Field) (g : Column → Cell) (span : List Field) → Stand before g
      → row_left (λ c. opened (g c)) span ≡ row all o before span
  row_span before g span stand =
      ap (row_text default_writer)
      (map_same (λ c. left_text (opened (g c)) span) (cell_text o before span)
      (λ c. opened_left o before span c (g c) (stand c).0 (stand c).1) all)

  -- the rows that are due with an open span
  abbrev OpenRows : List Field → List Field → Type 0
  OpenRows before fields = (g : Column → Cell) → Stand before g
      → rows_left (Some each) (map g all) true fields
      ≡ row_left g (before_each each fields) ++ flat_map (row all o before) (spans each fields)

  -- one field more, which opens the next span or not
  open_step : (is : Bool) (before : List Field) (f : Field) (fields : List Field)
      → OpenRows before fields → (g : Column → Cell) → Stand before g
      → cond is (row_of (map g all)
      ++ rows_left (Some each) (map (noted true f) (map opened (map g all))) true fields)
      (rows_left (Some each) (map (noted true f) (map g all)) true fields)
      ≡ row_left g (cond is [] (f ∷ before_each each fields))
      ++ flat_map (row all o before)
      (cond is ((f ∷ before_each each fields) ∷ spans each fields) (spans each fields))
  open_step true before f fields rest g stand =
      let g' : Column → Cell = λ c. noted true f (opened (g c)) in
      let cells : map (noted true f) (map opened (map g all)) ≡ map g' all =
      ap (map (noted true f)) (map_twice opened g all)
      ∙ map_twice (noted true f) (λ c. opened (g c)) all in
      let one = row_more (λ c. opened (g c)) f (before_each each fields)
      ∙ row_span before g (f ∷ before_each each fields) stand in
      ap (λ (t : List ℕ). t
      ++ rows_left (Some each) (map (noted true f) (map opened (map g all))) true fields) (row_none g)
      ∙ ap (λ cs. row_left g [] ++ rows_left (Some each) cs true fields) cells
      ∙ ap (λ (t : List ℕ). row_left g [] ++ t)
      (rest g' (stand_noted before (λ c. opened (g c)) f (stand_opened before g stand))
      ∙ ap (λ (t : List ℕ). t ++ flat_map (row all o before) (spans each fields)) one)
  open_step false before f fields rest g stand =
      ap (λ cs. rows_left (Some each) cs true fields) (map_twice (noted true f) g all)
      ∙ rest (λ c. noted true f (g c)) (stand_noted before g f stand)
      ∙ ap (λ (t : List ℕ). t ++ flat_map (row all o before) (spans each fields))
      (row_more g f (before_each each fields))

  -- all fields
  open_rows : (before fields : List Field) → OpenRows before fields
  unfolding rows_left before_each spans
  open_rows before [] g stand = row_none g ∙ sym (append-nil (row_left g []))
  open_rows before (f ∷ fields) g stand =
      open_step (f.fxy == each) before f fields (open_rows before fields) g stand

-- ---- before the first span

-- the last field with a descriptor, of one field more
last_if : (is : Bool) (f : Field) (fields : List Field)
    → slice_get (reverse (fields ++ cond is (f ∷ []) [])) 0
    ≡ cond is (Some f) (slice_get (reverse fields) 0)
last_if true f fields = ap (λ fs. slice_get fs 0) (reverse-append fields (f ∷ []))
last_if false f fields = ap (λ fs. slice_get (reverse fs) 0) (append-nil fields)

last_more : (d : ℕ) (f : Field) (fields : List Field)
    → last_with d (fields ++ f ∷ []) ≡ cond (f.fxy == d) (Some f) (last_with d fields)
last_more d f fields =
    ap (λ fs. slice_get (reverse fs) 0) (filter-append (λ x. x.fxy == d) fields (f ∷ []))
    ∙ last_if (f.fxy == d) f (fields_with d fields)

-- a field before all spans, if it is of the column
put_if : (is : Bool) (f : Field) (c : Cell)
    → (cond is (put_before f c) c).before ≡ cond is (shown_value f) c.before
put_if true f c = refl
put_if false f c = refl

put_column : (is : Bool) (f : Field) (c : Cell) → (cond is (put_before f c) c).column ≡ c.column
put_column true f c = refl
put_column false f c = refl

value_cond : (is : Bool) (f : Field) (found : Option Field)
    → cond is (shown_value f) (value_if found) ≡ value_if (cond is (Some f) found)
value_cond true f found = refl
value_cond false f found = refl

-- a field before all spans
unopened_column : (column : Column) (f : Field) (c : Cell)
    → (noted_by column false f c).column ≡ c.column
unopened_column (columns.Fact fact) f c = refl
unopened_column (columns.First d) f c = put_column (f.fxy == d) f c
unopened_column (columns.Nth d n) f c = refl

unopened_before : (column : Column) (o : Origin) (before : List Field) (f : Field) (c : Cell)
    → c.before ≡ before_text o before column
    → (noted_by column false f c).before ≡ before_text o (before ++ f ∷ []) column
unopened_before (columns.Fact fact) o before f c told = told
unopened_before (columns.First d) o before f c told =
    put_if (f.fxy == d) f c ∙ ap (λ t. cond (f.fxy == d) (shown_value f) t) told
    ∙ value_cond (f.fxy == d) f (last_with d before)
    ∙ ap value_if (sym (last_more d f before))
unopened_before (columns.Nth d n) o before f c told = told

-- ---- all rows

module _ (o : Origin) (all : List Column) (each : ℕ) where
  -- the cells stand so after a field before all spans
  stand_unopened : (before : List Field) (g : Column → Cell) (f : Field)
      → Stand o all each before g
      → Stand o all each (before ++ f ∷ []) (λ c. noted false f (g c))
  stand_unopened before g f stand c = (
    unopened_column (g c).column f (g c) ∙ (stand c).0,
    ap (λ x. (noted_by x false f (g c)).before) (stand c).0
        ∙ unopened_before c o before f (g c) (stand c).1,
  )

  -- the rows that are due before the first span
  abbrev ClosedRows : List Field → Type 0
  ClosedRows fields = (before : List Field) (g : Column → Cell) → Stand o all each before g
      → rows_left (Some each) (map g all) false fields
      ≡ flat_map (row all o (before ++ before_each each fields)) (spans each fields)

  -- one field more, which opens the first span or not
  closed_step : (is : Bool) (f : Field) (fields : List Field) → ClosedRows fields
      → (before : List Field) (g : Column → Cell) → Stand o all each before g
      → cond is (ended false (map g all)
      ++ rows_left (Some each) (map (noted true f) (map opened (map g all))) true fields)
      (rows_left (Some each) (map (noted false f) (map g all)) false fields)
      ≡ flat_map (row all o (before ++ cond is [] (f ∷ before_each each fields)))
      (cond is ((f ∷ before_each each fields) ∷ spans each fields) (spans each fields))
  closed_step true f fields rest before g stand =
      let g' : Column → Cell = λ c. noted true f (opened (g c)) in
      let cells : map (noted true f) (map opened (map g all)) ≡ map g' all =
      ap (map (noted true f)) (map_twice opened g all)
      ∙ map_twice (noted true f) (λ c. opened (g c)) all in
      let one = row_more o all each (λ c. opened (g c)) f (before_each each fields)
      ∙ row_span o all each before g (f ∷ before_each each fields) stand in
      ap (λ cs. rows_left (Some each) cs true fields) cells
      ∙ open_rows o all each before fields g'
      (stand_noted o all each before (λ c. opened (g c)) f (stand_opened o all each before g stand))
      ∙ ap (λ (t : List ℕ). t ++ flat_map (row all o before) (spans each fields)) one
      ∙ ap (λ fs. flat_map (row all o fs) ((f ∷ before_each each fields) ∷ spans each fields))
      (sym (append-nil before))
  closed_step false f fields rest before g stand =
      ap (λ cs. rows_left (Some each) cs false fields) (map_twice (noted false f) g all)
      ∙ rest (before ++ f ∷ []) (λ c. noted false f (g c)) (stand_unopened before g f stand)
      ∙ ap (λ fs. flat_map (row all o fs) (spans each fields))
      (append_assoc before (f ∷ []) (before_each each fields))

  -- all fields
  closed_rows : (fields : List Field) → ClosedRows fields
  unfolding rows_left before_each spans
  closed_rows [] before g stand = refl
  closed_rows (f ∷ fields) before g stand =
      closed_step (f.fxy == each) f fields (closed_rows fields) before g stand

  -- the one row of all fields
  plain_rows : (fields : List Field) (g : Column → Cell)
      → rows_left None (map g all) true fields ≡ row_left o all each g fields
  unfolding rows_left
  plain_rows [] g = row_none o all each g
  plain_rows (f ∷ fields) g =
      ap (λ cs. rows_left None cs true fields) (map_twice (noted true f) g all)
      ∙ plain_rows fields (λ c. noted true f (g c)) ∙ row_more o all each g f fields

-- cells that begin a subset have no field before them
stand_begun : (o : Origin) (column : Column)
    → (begun o column).before ≡ before_text o [] column
stand_begun o (columns.Fact fact) = refl
stand_begun o (columns.First d) = refl
stand_begun o (columns.Nth d n) = refl

-- the rows that are due at the begin of a subset are its rows
pub rows_due : (each : Option ℕ) (all : List Column) (o : Origin) (fields : List Field)
    → rows_left each (map (begun o) all) (opens_at_once each) fields ≡ rows all each o fields
rows_due None all o fields =
    plain_rows o all 0 fields (begun o)
    ∙ row_span o all 0 [] (begun o) fields (λ c. (refl, stand_begun o c))
rows_due (Some each) all o fields =
    closed_rows o all each fields [] (begun o) (λ c. (refl, stand_begun o c))

-- the columns of cells stay, whatever comes
pub columns_noted : (in_span : Bool) (f : Field) (cells : List Cell)
    → map (λ c. c.column) (map (noted in_span f) cells) ≡ map (λ c. c.column) cells
columns_noted true f cells =
    map_twice (λ (c : Cell). c.column) (noted true f) cells
    ∙ map_same (λ c. (noted true f c).column) (λ c. c.column) (λ c. noted_column c.column f c) cells
columns_noted false f cells =
    map_twice (λ (c : Cell). c.column) (noted false f) cells
    ∙ map_same (λ c. (noted false f c).column) (λ c. c.column)
    (λ c. unopened_column c.column f c) cells

pub columns_opened : (cells : List Cell)
    → map (λ c. c.column) (map opened cells) ≡ map (λ c. c.column) cells
columns_opened cells = map_twice (λ (c : Cell). c.column) opened cells

-- cells of columns that begin a subset
pub cells_begun : (o : Origin) (all : List Column) (cells : List Cell)
    → map (λ c. c.column) cells ≡ all → map (λ c. begun o c.column) cells ≡ map (begun o) all
cells_begun o all cells is =
    sym (map_twice (begun o) (λ (c : Cell). c.column) cells) ∙ ap (map (begun o)) is

pub columns_begun : (o : Origin) (cells : List Cell)
    → map (λ c. c.column) (map (λ c. begun o c.column) cells) ≡ map (λ c. c.column) cells
columns_begun o cells = map_twice (λ (c : Cell). c.column) (λ c. begun o c.column) cells

-- a field of no column changes no cell
same_if : (is : Bool) (x y : Cell) → is ≡ false → cond is x y ≡ y
same_if false x y absent = refl
same_if true x y absent = absurd cc

-- whether a column asks for a descriptor
pub noted_other : (column : Column) (in_span : Bool) (f : Field) (c : Cell)
    → asks_for f.fxy column ≡ false → noted_by column in_span f c ≡ c
noted_other (columns.Fact fact) in_span f c absent = refl
noted_other (columns.First d) true f c absent = same_if (f.fxy == d) (counted f c) c absent
noted_other (columns.First d) false f c absent = same_if (f.fxy == d) (put_before f c) c absent
noted_other (columns.Nth d n) true f c absent = same_if (f.fxy == d) (counted f c) c absent
noted_other (columns.Nth d n) false f c absent = refl

-- ---- fields that no column asks for

-- two tests differ
false_not_true : {P : Type 0} → false ≡ true → P
false_not_true e = cc

-- a descriptor that is not in the set is not that of the column
not_of : (asked : ℕ → Bool) (d e : ℕ) (is : Bool) → (d == e) ≡ is → asked d ≡ false
    → asked e ≡ true → is ≡ false
not_of asked d e true same absent present =
    let e_is = eqb-true d e same in false_not_true (sym absent ∙ ap asked e_is ∙ present)
not_of asked d e false same absent present = refl

-- no column of a covered one asks for it
unasked_column : (asked : ℕ → Bool) (d : ℕ) (column : Column) → CoversColumn asked column
    → asked d ≡ false → asks_for d column ≡ false
unasked_column asked d (columns.Fact fact) covers absent = refl
unasked_column asked d (columns.First e) covers absent = not_of asked d e (d == e) refl absent covers
unasked_column asked d (columns.Nth e n) covers absent = not_of asked d e (d == e) refl absent covers

-- it changes no cell
same_cells : (asked : ℕ → Bool) (in_span : Bool) (f : Field) (cells : List Cell)
    → AllByRecursion (CoversColumn asked) (map (λ c. c.column) cells) → asked f.fxy ≡ false
    → map (noted in_span f) cells ≡ cells
same_cells asked in_span f [] covers absent = refl
same_cells asked in_span f (c ∷ cells) covers absent =
    ap (λ x. x ∷ map (noted in_span f) cells)
    (noted_other c.column in_span f c (unasked_column asked f.fxy c.column covers.0 absent))
    ∙ ap (λ xs. c ∷ xs) (same_cells asked in_span f cells covers.1 absent)

-- and opens no span
not_opened : (asked : ℕ → Bool) (each : Option ℕ) (f : Field) → CoversEach asked each
    → asked f.fxy ≡ false → opens each f ≡ false
not_opened asked None f covers absent = refl
not_opened asked (Some e) f covers absent = not_of asked f.fxy e (f.fxy == e) refl absent covers

-- so it changes no row
row_unasked : (each : Option ℕ) (cells : List Cell) (in_span : Bool) (f : Field) (fields : List Field)
    → opens each f ≡ false → map (noted in_span f) cells ≡ cells
    → rows_left each cells in_span (f ∷ fields) ≡ rows_left each cells in_span fields
unfolding rows_left
row_unasked each cells in_span f fields absent same = rw absent (ap (λ cs. rows_left each cs in_span fields) same)

-- nor do many
pub rows_passed : (asked : ℕ → Bool) (each : Option ℕ) (cells : List Cell) (in_span : Bool)
    (passed fields : List Field) → Covers asked each (map (λ c. c.column) cells)
    → AllByRecursion (λ f. asked f.fxy ≡ false) passed
    → rows_left each cells in_span (passed ++ fields) ≡ rows_left each cells in_span fields
rows_passed asked each cells in_span [] fields covers none = refl
rows_passed asked each cells in_span (f ∷ passed) fields covers none =
    row_unasked each cells in_span f (passed ++ fields) (not_opened asked each f covers.1 none.0)
    (same_cells asked in_span f cells covers.0 none.0)
    ∙ rows_passed asked each cells in_span passed fields covers none.1

-- with no field left
pub rows_none : (each : Option ℕ) (cells : List Cell) (in_span : Bool)
    → rows_left each cells in_span [] ≡ ended in_span cells
unfolding rows_left
rows_none each cells in_span = refl

-- one field more
step_if : (is in_span : Bool) (each : Option ℕ) (cells : List Cell) (f : Field) (fields : List Field)
    → cond is (ended in_span cells
    ++ rows_left each (map (noted true f) (map opened cells)) true fields)
    (rows_left each (map (noted in_span f) cells) in_span fields)
    ≡ cond is (ended in_span cells) []
    ++ rows_left each (cond is (map (noted true f) (map opened cells)) (map (noted in_span f) cells))
    (in_span || is) fields
step_if true true each cells f fields = refl
step_if true false each cells f fields = refl
step_if false true each cells f fields = refl
step_if false false each cells f fields = refl

pub rows_step : (each : Option ℕ) (in_span : Bool) (cells : List Cell) (f : Field)
    (fields : List Field)
    → rows_left each cells in_span (f ∷ fields)
    ≡ due each in_span cells f
    ++ rows_left each (after_field each in_span cells f) (in_span || opens each f) fields
unfolding rows_left
rows_step each in_span cells f fields = step_if (opens each f) in_span each cells f fields

-- the columns of cells stay
columns_if : (is in_span : Bool) (cells : List Cell) (f : Field)
    → map (λ c. c.column) (cond is (map (noted true f) (map opened cells)) (map (noted in_span f) cells))
    ≡ map (λ c. c.column) cells
columns_if true in_span cells f =
    columns_noted true f (map opened cells) ∙ columns_opened cells
columns_if false in_span cells f = columns_noted in_span f cells

pub columns_after : (each : Option ℕ) (in_span : Bool) (cells : List Cell) (f : Field)
    → map (λ c. c.column) (after_field each in_span cells f) ≡ map (λ c. c.column) cells
columns_after each in_span cells f = columns_if (opens each f) in_span cells f
