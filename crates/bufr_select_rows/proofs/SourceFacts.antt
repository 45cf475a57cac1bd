-- Cells from the columns of compressed data: the contracts of `source` and `find_columns`.
use Rattle.std.proofs.Common.{◌≡◌, ℕ, zero, suc, ◌+◌, ◌-◌, ◌==◌, ◌<◌, ◌≤◌, Bool, true, false, cond, List, [], ◌∷◌, ◌++◌}
use Rattle.std.proofs.Common.{Option, Some, None, IfSome, map, drop, length, get_or, refl, sym, ap, ◌∙◌, subst, arith}
use Rattle.std.proofs.Common.{append_assoc, length-append, not}
use Rattle.bufr_base.specs.AnswerLaws.{not_false}
use Rattle.std.specs.Prelude.{option_map}
use Rattle.std.specs.List.{slice_get}
use Rattle.std.specs.Option.{is_some}
use Rattle.std.proofs.lemmas.Bool.{eq-eqb, ne_eqb}
use Rattle.std.proofs.lemmas.List.{drop_all, drop_more}
use Rattle.std.proofs.lemmas.Option.{get_or_from_slice_get, slice_get-get_or, slice_get_within}
use Rattle.csv.specs.Writing.{default_writer, row_text}
use Rattle.bufr_fields.specs.declared.field.Field.{Field}
use Rattle.bufr_fields.specs.declared.field.Subset.{Subset}
use Rattle.bufr_data.specs.Chosen.{HaveChosen, chosen, is_listed}
use Rattle.bufr_data.specs.Compressed.{field_of, subset_of}
use Rattle.bufr_data.specs.Compressed.{Column as DataColumn}
use Rattle.bufr_data.specs.Compressed.Indexed.{Indexed}
use Rattle.bufr_select_rows.specs.Asks.{Covers, ListsAll, flagged}
use Rattle.bufr_select_rows.specs.CellLaws.{columns_begun}
use Rattle.bufr_select_rows.specs.Cells.{begun, opens_at_once}
use Rattle.bufr_select_rows.specs.Rows.{Origin, cell_text, fields_with, rows, value_if, value_or}
use Rattle.bufr_select_rows.specs.Sources.{HaveRows, source_from, source_nth, source_of, source_row, source_text}
use Rattle.bufr_select_rows.specs.declared.cell.Cell.{Cell}
use Rattle.bufr_select_rows.specs.declared.column.Column.{Column}
use Rattle.bufr_select_rows.specs.declared.column.Column.TheVariants as columns
use Rattle.bufr_select_rows.specs.declared.source.Source.{Source}
use Rattle.bufr_select_rows.specs.declared.source.Source.TheVariants as sources
use Rattle.bufr_select_rows.proofs.ChosenFacts.{covers_listed, rows_chosen}
use Rattle.bufr_select_rows.proofs.PickedFacts.{rows_begun}

-- ---- the loop of `source_nth`

-- tests for zero
pub is_zero : (n : ℕ) → n ≡ 0 → (n == 0) ≡ true
is_zero n is = eq-eqb n 0 is

pub no_zero : (n : ℕ) → (n ≡ 0 → ⊥) → (n == 0) ≡ false
no_zero n other = ne_eqb n 0 other

-- the descriptor that was found at an index
abbrev pub StandsAt : List DataColumn → ℕ → ℕ → Type 0
StandsAt cs k d = (c : DataColumn) × (c.fxy ≡ d) × (k < length cs) × (drop k cs ≡ c ∷ drop (k + 1) cs)

stands_if : (cs : List DataColumn) (k d : ℕ) (found : Option DataColumn) → slice_get cs k ≡ found
    → option_map (λ c. c.fxy) found ≡ Some d → StandsAt cs k d
stands_if cs k d None at is = absurd cc
stands_if cs k d (Some c) at is =
    let within = slice_get_within cs k c at in (
      c,
      some_same is,
      within,
      drop_more cs k c within
          ∙ ap (λ x. x ∷ drop (k + 1) cs) (get_or_from_slice_get cs k c c at),
    )
  where
    some_same : {x y : ℕ} → Some x ≡ Some y → x ≡ y
    some_same {x} {y} same = ap (λ o. cond_of o) same
      where
        cond_of : Option ℕ → ℕ
        cond_of (Some n) = n
        cond_of None = 0

pub stands : (cs : List DataColumn) (k d : ℕ)
    → Some d ≡ option_map (λ c. c.fxy) (slice_get cs k) → StandsAt cs k d
stands cs k d is = stands_if cs k d (slice_get cs k) refl (sym is)

none_if : (cs : List DataColumn) (k : ℕ) (found : Option DataColumn) → slice_get cs k ≡ found
    → None ≡ option_map (λ c. c.fxy) found → length cs ≤ k
none_if cs k None at is = slice_get_none cs k at
  where
    slice_get_none : (xs : List DataColumn) (n : ℕ) → slice_get xs n ≡ None → length xs ≤ n
    slice_get_none [] n none = omega arith
    slice_get_none (x ∷ xs) zero none = absurd cc
    slice_get_none (x ∷ xs) (suc n) none = let rest = slice_get_none xs n none in omega (arith, rest)
none_if cs k (Some c) at is = absurd cc

-- no column is left
pub source_none : (cs : List DataColumn) (d ahead k : ℕ)
    → None ≡ option_map (λ c. c.fxy) (slice_get cs k)
    → source_from d ahead k (drop k cs) ≡ sources.Nothing
unfolding source_from
source_none cs d ahead k is =
    ap (source_from d ahead k) (drop_all k cs (none_if cs k (slice_get cs k) refl is))

-- a column by a test of its descriptor
source_step : (cs : List DataColumn) (d ahead k here : ℕ) (is : Bool) → StandsAt cs k here
    → (here == d) ≡ is
    → source_from d ahead k (drop k cs)
    ≡ cond is (cond (ahead == 0) (sources.Field k) (source_from d (ahead - 1) (k + 1) (drop (k + 1) cs)))
    (source_from d ahead (k + 1) (drop (k + 1) cs))
unfolding source_from
source_step cs d ahead k here is at test =
    ap (source_from d ahead k) at.3
    ∙ ap (λ b. cond b
    (cond (ahead == 0) (sources.Field k) (source_from d (ahead - 1) (k + 1) (drop (k + 1) cs)))
    (source_from d ahead (k + 1) (drop (k + 1) cs)))
    (ap (λ (x : ℕ). x == d) at.1 ∙ test)

-- a column of another descriptor
pub source_other : (cs : List DataColumn) (d ahead k here : ℕ) → StandsAt cs k here → not (here == d) ≡ true
    → source_from d ahead k (drop k cs) ≡ source_from d ahead (k + 1) (drop (k + 1) cs)
source_other cs d ahead k here at test =
    source_step cs d ahead k here false at (not_true (here == d) test)
  where
    not_true : (b : Bool) → not b ≡ true → b ≡ false
    not_true true same = absurd cc
    not_true false same = refl

-- the column that was asked for, or one before it
pub source_here : (cs : List DataColumn) (d ahead k here : ℕ) (last : Bool) → StandsAt cs k here
    → not (here == d) ≡ false → (ahead == 0) ≡ last
    → source_from d ahead k (drop k cs)
    ≡ cond last (sources.Field k) (source_from d (ahead - 1) (k + 1) (drop (k + 1) cs))
source_here cs d ahead k here last at test is =
    source_step cs d ahead k here true at (not_false (here == d) test)
    ∙ ap (λ b. cond b (sources.Field k) (source_from d (ahead - 1) (k + 1) (drop (k + 1) cs))) is

pub source_begun : (cs : List DataColumn) (d n : ℕ) → (n == 0) ≡ false
    → source_from d (n - 1) 0 cs ≡ source_nth d n cs
source_begun cs d zero some = absurd cc
source_begun cs d (suc n) some = let same : suc n - 1 ≡ n = omega arith in
    ap (λ m. source_from d m 0 cs) same

-- ---- the text of a source

-- a value, or none
value_or_none : (found : Option Field) → value_if found ≡ value_or found []
value_or_none None = refl
value_or_none (Some f) = refl

-- the field after some others
pub slice_at : (before fs : List Field) (f : Field) (k : ℕ) → k ≡ length before
    → slice_get (before ++ f ∷ fs) k ≡ Some f
slice_at [] fs f zero at = refl
slice_at [] fs f (suc k) at = absurd (omega (arith, at))
slice_at (b ∷ before) fs f zero at = absurd (omega (arith, at))
slice_at (b ∷ before) fs f (suc k) at = slice_at before fs f k (omega (arith, at))

-- the text after one column more
shown_step : (is : Bool) (m : ℕ) (o : Origin) (d index : ℕ) (before fs : List Field) (f : Field)
    (cs : List DataColumn) → index ≡ length before
    → ((k : ℕ) → source_text o (before ++ f ∷ fs) (source_from d k (index + 1) cs)
    ≡ value_if (slice_get (fields_with d fs) k))
    → source_text o (before ++ f ∷ fs)
    (cond is (cond (m == 0) (sources.Field index) (source_from d (m - 1) (index + 1) cs))
    (source_from d m (index + 1) cs))
    ≡ value_if (slice_get (cond is (f ∷ fields_with d fs) (fields_with d fs)) m)
shown_step false m o d index before fs f cs at rest = rest m
shown_step true zero o d index before fs f cs at rest = ap value_if (slice_at before fs f index at)
shown_step true (suc m) o d index before fs f cs at rest =
    let same : suc m - 1 ≡ m = omega arith in
    ap (λ b. source_text o (before ++ f ∷ fs)
    (cond b (sources.Field index) (source_from d (suc m - 1) (index + 1) cs)))
    (no_zero (suc m) (λ is. omega (arith, is)))
    ∙ ap (λ k. source_text o (before ++ f ∷ fs) (source_from d k (index + 1) cs)) same ∙ rest m

-- the source shows the field of the column that it found
source_shown : (o : Origin) (i d ahead index : ℕ) (before : List Field) (cs : List DataColumn)
    → index ≡ length before
    → source_text o (before ++ map (field_of i) cs) (source_from d ahead index cs)
    ≡ value_if (slice_get (fields_with d (map (field_of i) cs)) ahead)
unfolding source_from
source_shown o i d ahead index before [] at = refl
source_shown o i d ahead index before (c ∷ cs) at =
    let f = field_of i c in
    let fs = map (field_of i) cs in
    shown_step (c.fxy == d) ahead o d index before fs f cs at
    (λ k. ap (λ fields. source_text o fields (source_from d k (index + 1) cs))
    (sym (append_assoc before (f ∷ []) fs))
    ∙ source_shown o i d k (index + 1) (before ++ f ∷ []) cs
    (omega (arith, at, length-append before (f ∷ []))))

-- the source of a column shows its text
pub source_is : (cs : List DataColumn) (column : Column) (o : Origin) (i : ℕ)
    → source_text o (subset_of cs i).fields (source_of cs column)
    ≡ cell_text o [] (subset_of cs i).fields column
source_is cs (columns.Fact fact) o i = refl
source_is cs (columns.First d) o i =
    source_shown o i d 0 0 [] cs refl
    ∙ value_or_none (slice_get (fields_with d (map (field_of i) cs)) 0)
source_is cs (columns.Nth d zero) o i = refl
source_is cs (columns.Nth d (suc n)) o i = source_shown o i d n 0 [] cs refl

texts_are : (cs : List DataColumn) (cells : List Cell) (o : Origin) (i : ℕ)
    → map (source_text o (subset_of cs i).fields) (map (λ c. source_of cs c.column) cells)
    ≡ map (cell_text o [] (subset_of cs i).fields) (map (λ c. c.column) cells)
texts_are cs [] o i = refl
texts_are cs (c ∷ cells) o i = λ j. source_is cs c.column o i j ∷ texts_are cs cells o i j

-- ---- the rows of a message

-- fields that no column asks for change no row
chosen_rows : (list : List ℕ) (each : Option ℕ) (cells : List Cell) (o : Origin) (fields : List Field)
    → Covers (is_listed list) each (map (λ c. c.column) cells)
    → rows (map (λ c. c.column) cells) each o (chosen list fields)
    ≡ rows (map (λ c. c.column) cells) each o fields
chosen_rows list each cells o fields covers =
    let begun_cells = map (λ (c : Cell). begun o c.column) cells in
    sym (rows_begun each o cells begun_cells (chosen list fields) refl)
    ∙ rows_chosen list each begun_cells (opens_at_once each) fields
    (subst (Covers (is_listed list) each) (sym (columns_begun o cells)) covers)
    ∙ rows_begun each o cells begun_cells fields refl

-- the row of sources is the row of a subset
row_is : (list : List ℕ) (cells : List Cell) (cs : List DataColumn) (o : Origin) (i : ℕ)
    (found : Option Subset) → Covers (is_listed list) None (map (λ c. c.column) cells)
    → IfSome found (λ s. (subset_of cs i).fields ≡ chosen list s.fields)
    → IfSome found (λ s. source_row (map (λ c. source_of cs c.column) cells) o cs i
    ≡ rows (map (λ c. c.column) cells) None o s.fields)
row_is list cells cs o i None covers are = tt
row_is list cells cs o i (Some s) covers are =
    ap (row_text default_writer) (texts_are cs cells o i)
    ∙ ap (rows (map (λ c. c.column) cells) None o) are
    ∙ chosen_rows list None cells o s.fields covers

-- no descriptor opens spans
pub none_opens : (each : Option ℕ) → is_some each ≡ false → each ≡ None
none_opens None is = refl
none_opens (Some d) is = absurd cc

pub have_rows : (marks list : List ℕ) (each : Option ℕ) (cells : List Cell) (found : List Source)
    (subsets : List Subset) (x : Indexed) → each ≡ None → ListsAll marks list
    → Covers (flagged marks) each (map (λ c. c.column) cells) → HaveChosen list subsets x
    → found ≡ map (λ c. source_of x.columns c.column) cells
    → HaveRows each (map (λ c. c.column) cells) found subsets x
have_rows marks list each cells found subsets x none lists covers are is =
    let listed : Covers (is_listed list) None (map (λ c. c.column) cells) =
    subst (λ e. Covers (is_listed list) e (map (λ c. c.column) cells)) none
    (covers_listed marks list each (map (λ c. c.column) cells) lists covers) in
    subst (λ e. HaveRows e (map (λ c. c.column) cells) found subsets x) (sym none)
    (subst (λ xs. HaveRows None (map (λ c. c.column) cells) xs subsets x) (sym is)
    (are.0, λ o i. row_is list cells x.columns o i (slice_get subsets i) listed (are.1 i)))

-- the row of sources in the subset at an index
pub subset_row : (each : Option ℕ) (all : List Column) (found : List Source) (subsets : List Subset)
    (x : Indexed) (o : Origin) (i : ℕ) → HaveRows each all found subsets x → i < length subsets
    → (s : Subset) × (slice_get subsets i ≡ Some s)
    × (source_row found o x.columns i ≡ rows all each o s.fields)
subset_row each all found subsets x o i have within =
    let s = get_or subsets i (record { fields = [] }) in
    let there : slice_get subsets i ≡ Some s =
    slice_get-get_or subsets i (record { fields = [] }) within in
    (s, there, rw there at (have.1 o i))
