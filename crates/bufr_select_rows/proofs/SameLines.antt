-- Subsets with the same lines have the same rows: rows depend on the descriptors of fields and on what
-- cells show of them alone.
use Rattle.std.proofs.Common.{◌≡◌, ℕ, zero, suc, ◌==◌, Bool, true, false, List, [], ◌∷◌, ◌++◌, map, refl}
use Rattle.std.proofs.Common.{sym, ap, ◌∙◌, Option, Some, None, filter, reverse, take, drop, get_or}
use Rattle.std.specs.Prelude.{decimal, if◌then◌else◌, slice_get}
use Rattle.std.specs.List.{AllByRecursion, flat_map}
use Rattle.std.specs.Option.{option_map}
use Rattle.std.proofs.lemmas.List.{map-append, reverse-append}
use Rattle.csv.specs.Writing.{default_writer, row_text}
use Rattle.bufr_tables.specs.Descriptors.{IsDescriptor}
use Rattle.bufr_fields.specs.declared.field.Field.{Field}
use Rattle.bufr_listing.specs.Listings.{field_line}
use Rattle.bufr_select_rows.specs.ListedCells.{LinesDetermineRows, cell_of_word, word_in}
use Rattle.bufr_select_rows.specs.Rows.{Origin, before_each, cell_text, fields_with, last_with, nth_with}
use Rattle.bufr_select_rows.specs.Rows.{row, rows, spans, told_number, value_if, value_or}
use Rattle.bufr_select_rows.specs.Values.{shown_value}
use Rattle.bufr_select_rows.specs.declared.column.Column.{Column}
use Rattle.bufr_select_rows.specs.declared.column.Column.TheVariants as columns
use Rattle.bufr_select_rows.proofs.ListedFacts.{one_descriptor, value_listed}

-- ---- what rows see of a field

-- the descriptor of a field, and what a cell shows of it
abbrev Seen : Type 0
Seen = ℕ × List ℕ

abbrev seen : Field → Seen
seen f = (f.fxy, shown_value f)

-- fields with a descriptor
abbrev with_fxy : ℕ → List Seen → List Seen
with_fxy d xs = filter (λ x. x.0 == d) xs

filter_if : (is : Bool) (f : Field) (fields : List Field) (xs : List Seen) → map seen fields ≡ xs
    → map seen (if is then f ∷ fields else fields) ≡ (if is then seen f ∷ xs else xs)
filter_if true f fields xs rest = ap (λ ys. seen f ∷ ys) rest
filter_if false f fields xs rest = rest

with_seen : (d : ℕ) (fields : List Field)
    → map seen (fields_with d fields) ≡ with_fxy d (map seen fields)
with_seen d [] = refl
with_seen d (f ∷ fields) =
    filter_if (f.fxy == d) f (fields_with d fields) (with_fxy d (map seen fields)) (with_seen d fields)

-- the field at a place
get_seen : (fields : List Field) (i : ℕ)
    → option_map seen (slice_get fields i) ≡ slice_get (map seen fields) i
get_seen [] i = refl
get_seen (f ∷ fields) zero = refl
get_seen (f ∷ fields) (suc i) = get_seen fields i

-- fields in the other order
reverse_seen : (fields : List Field) → map seen (reverse fields) ≡ reverse (map seen fields)
reverse_seen [] = refl
reverse_seen (f ∷ fields) =
    ap (map seen) (reverse-append (f ∷ []) fields)
    ∙ map-append seen (reverse fields) (f ∷ [])
    ∙ ap (λ ys. ys ++ seen f ∷ []) (reverse_seen fields)
    ∙ sym (reverse-append (seen f ∷ []) (map seen fields))

-- ---- cells

-- the text of a field, or else another
abbrev text_or : Option Seen → List ℕ → List ℕ
text_or None other = other
text_or (Some x) other = x.1

value_seen : (found : Option Field) (other : List ℕ)
    → value_or found other ≡ text_or (option_map seen found) other
value_seen None other = refl
value_seen (Some f) other = refl

value_if_seen : (found : Option Field) → value_if found ≡ text_or (option_map seen found) []
value_if_seen None = refl
value_if_seen (Some f) = refl

-- the n-th field, the last one, and the text of a column
abbrev nth_of : ℕ → ℕ → List Seen → Option Seen
nth_of d zero xs = None
nth_of d (suc n) xs = slice_get (with_fxy d xs) n

nth_seen : (d n : ℕ) (fields : List Field)
    → option_map seen (nth_with d n fields) ≡ nth_of d n (map seen fields)
nth_seen d zero fields = refl
nth_seen d (suc n) fields =
    get_seen (fields_with d fields) n ∙ ap (λ xs. slice_get xs n) (with_seen d fields)

abbrev last_of : ℕ → List Seen → Option Seen
last_of d xs = slice_get (reverse (with_fxy d xs)) 0

last_seen : (d : ℕ) (fields : List Field)
    → option_map seen (last_with d fields) ≡ last_of d (map seen fields)
last_seen d fields =
    get_seen (reverse (fields_with d fields)) 0
    ∙ ap (λ xs. slice_get xs 0)
    (reverse_seen (fields_with d fields) ∙ ap reverse (with_seen d fields))

abbrev text_by : Origin → List Seen → List Seen → Column → List ℕ
text_by o before span (columns.Fact fact) = decimal (told_number fact o)
text_by o before span (columns.First d) =
    text_or (nth_of d 1 span) (text_or (last_of d before) [])
text_by o before span (columns.Nth d n) = text_or (nth_of d n span) []

text_seen : (o : Origin) (before span : List Field) (column : Column)
    → cell_text o before span column ≡ text_by o (map seen before) (map seen span) column
text_seen o before span (columns.Fact fact) = refl
text_seen o before span (columns.First d) =
    value_seen (nth_with d 1 span) (value_if (last_with d before))
    ∙ (λ i. text_or (nth_seen d 1 span i)
    ((value_if_seen (last_with d before)
    ∙ ap (λ x. text_or x []) (last_seen d before)) i))
text_seen o before span (columns.Nth d n) =
    value_if_seen (nth_with d n span) ∙ ap (λ x. text_or x []) (nth_seen d n span)

-- ---- rows

abbrev row_by : List Column → Origin → List Seen → List Seen → List ℕ
row_by all o before span = row_text default_writer (map (text_by o before span) all)

texts_seen : (o : Origin) (before span : List Field) (all : List Column)
    → map (cell_text o before span) all ≡ map (text_by o (map seen before) (map seen span)) all
texts_seen o before span [] = refl
texts_seen o before span (column ∷ all) =
    (λ i. text_seen o before span column i ∷ texts_seen o before span all i)

row_seen : (all : List Column) (o : Origin) (before span : List Field)
    → row all o before span ≡ row_by all o (map seen before) (map seen span)
row_seen all o before span = ap (row_text default_writer) (texts_seen o before span all)

-- the fields before the first of `each`, and the spans
unfoldable before_by : ℕ → List Seen → List Seen
before_by each [] = []
before_by each (x ∷ xs) = if x.0 == each then [] else x ∷ before_by each xs

unfoldable spans_by : ℕ → List Seen → List (List Seen)
spans_by each [] = []
spans_by each (x ∷ xs) = if x.0 == each then (x ∷ before_by each xs) ∷ spans_by each xs
    else spans_by each xs

before_if : (is : Bool) (f : Field) (fields : List Field) (xs : List Seen) → map seen fields ≡ xs
    → map seen (if is then [] else f ∷ fields) ≡ (if is then [] else seen f ∷ xs)
before_if true f fields xs rest = refl
before_if false f fields xs rest = ap (λ ys. seen f ∷ ys) rest

before_seen : (each : ℕ) (fields : List Field)
    → map seen (before_each each fields) ≡ before_by each (map seen fields)
unfolding before_each before_by
before_seen each [] = refl
before_seen each (f ∷ fields) =
    before_if (f.fxy == each) f (before_each each fields) (before_by each (map seen fields))
    (before_seen each fields)

span_if : (is : Bool) (span : List Field) (later : List (List Field)) (x : List Seen)
    (xs : List (List Seen)) → map seen span ≡ x → map (map seen) later ≡ xs
    → map (map seen) (if is then span ∷ later else later) ≡ (if is then x ∷ xs else xs)
span_if true span later x xs one rest = (λ i. one i ∷ rest i)
span_if false span later x xs one rest = rest

spans_seen : (each : ℕ) (fields : List Field)
    → map (map seen) (spans each fields) ≡ spans_by each (map seen fields)
unfolding spans spans_by
spans_seen each [] = refl
spans_seen each (f ∷ fields) =
    span_if (f.fxy == each) (f ∷ before_each each fields) (spans each fields)
    (seen f ∷ before_by each (map seen fields)) (spans_by each (map seen fields))
    (ap (λ ys. seen f ∷ ys) (before_seen each fields)) (spans_seen each fields)

rows_seen_in : (all : List Column) (o : Origin) (before : List Field) (ss : List (List Field))
    → flat_map (row all o before) ss ≡ flat_map (row_by all o (map seen before)) (map (map seen) ss)
rows_seen_in all o before [] = refl
rows_seen_in all o before (span ∷ ss) =
    (λ i. row_seen all o before span i ++ rows_seen_in all o before ss i)

abbrev rows_by : List Column → Option ℕ → Origin → List Seen → List ℕ
rows_by all None o xs = row_by all o [] xs
rows_by all (Some each) o xs = flat_map (row_by all o (before_by each xs)) (spans_by each xs)

rows_seen : (all : List Column) (each : Option ℕ) (o : Origin) (fields : List Field)
    → rows all each o fields ≡ rows_by all each o (map seen fields)
rows_seen all None o fields = row_seen all o [] fields
rows_seen all (Some each) o fields =
    rows_seen_in all o (before_each each fields) (spans each fields)
    ∙ (λ i. flat_map (row_by all o (before_seen each fields i)) (spans_seen each fields i))

-- ---- lines

-- a line tells what is seen of its field
line_tells : (f g : Field) → IsDescriptor f.fxy → IsDescriptor g.fxy → field_line f ≡ field_line g
    → seen f ≡ seen g
line_tells f g can_f can_g same =
    let fxy = one_descriptor f.fxy g.fxy can_f can_g (ap (take 6) same) in
    let value = value_listed f ∙ ap (λ t. cell_of_word (word_in t)) same ∙ sym (value_listed g) in
    (λ i. (fxy i, value i))

lines_tell : (fields others : List Field) → AllByRecursion (λ f. IsDescriptor f.fxy) fields
    → AllByRecursion (λ f. IsDescriptor f.fxy) others → map field_line fields ≡ map field_line others
    → map seen fields ≡ map seen others
lines_tell [] [] can_f can_g same = refl
lines_tell [] (g ∷ others) can_f can_g same = absurd cc
lines_tell (f ∷ fields) [] can_f can_g same = absurd cc
lines_tell (f ∷ fields) (g ∷ others) can_f can_g same =
    let one = line_tells f g can_f.0 can_g.0 (ap (λ (ls : List (List ℕ)). get_or ls 0 []) same) in
    let rest = lines_tell fields others can_f.1 can_g.1 (ap (drop 1) same) in
    (λ i. one i ∷ rest i)

pub same_rows : LinesDetermineRows
same_rows all each o fields others can_f can_g same =
    rows_seen all each o fields
    ∙ ap (rows_by all each o) (lines_tell fields others can_f can_g same)
    ∙ sym (rows_seen all each o others)
