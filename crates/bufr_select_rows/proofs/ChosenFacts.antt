-- Rows by the fields of a list's descriptors alone.
use Rattle.std.proofs.Common.{◌≡◌, ℕ, ◌+◌, ◌<◌, ◌≤◌, ◌==◌, ◌||◌, not, Bool, true, false, cond, List, [], ◌∷◌, ◌++◌}
use Rattle.std.proofs.Common.{Option, Some, None, IfSome, get_or, length, map, refl, sym, ap, ◌∙◌, subst, append_assoc}
use Rattle.std.proofs.Common.{append-nil, arith}
use Rattle.std.proofs.Math.Nat.{lt_of_not-le}
use borrow.Author.Count.{below_more}
use Rattle.std.specs.List.{AllByRecursion, slice_get}
use Rattle.std.proofs.lemmas.Bool.{eq-eqb, false≢true}
use Rattle.std.proofs.lemmas.List.{get_or_past}
use Rattle.std.proofs.lemmas.Option.{slice_get-get_or}
use Rattle.std.proofs.lemmas.List.Folds.{list_any-append}
use Rattle.bufr_fields.specs.declared.field.Field.{Field}
use Rattle.bufr_fields.specs.declared.field.Subset.{Subset}
use Rattle.bufr_data.specs.Chosen.{chosen, is_listed}
use Rattle.bufr_data.specs.Handed.{HandsOutAsked, NoneAsked, PassesUnasked}
use Rattle.bufr_select_rows.specs.Asks.{Covers, CoversColumn, CoversEach, ListsAll, flagged}
use Rattle.bufr_select_rows.specs.Cells.{after_field, due, opens, rows_left}
use Rattle.bufr_select_rows.specs.CellLaws.{columns_after, rows_passed, rows_step}
use Rattle.bufr_select_rows.specs.declared.cell.Cell.{Cell}
use Rattle.bufr_select_rows.specs.declared.column.Column.{Column}
use Rattle.bufr_select_rows.specs.declared.column.Column.TheVariants as columns

-- ---- the list of marked descriptors

or_true : (b : Bool) → (b || true) ≡ true
or_true true = refl
or_true false = refl

pub listed_still : (list grown : List ℕ) (x d : ℕ) → grown ≡ list ++ x ∷ []
    → is_listed list d ≡ true → is_listed grown d ≡ true
listed_still list grown x d is listed =
    ap (λ xs. is_listed xs d) is ∙ list_any-append (λ e. e == d) list (x ∷ [])
    ∙ ap (λ b. b || is_listed (x ∷ []) d) listed

pub listed_last : (list grown : List ℕ) (x d : ℕ) → grown ≡ list ++ x ∷ [] → x ≡ d
    → is_listed grown d ≡ true
listed_last list grown x d is same =
    ap (λ xs. is_listed xs d) is ∙ list_any-append (λ e. e == d) list (x ∷ [])
    ∙ ap (λ b. is_listed list d || (b || false)) (eq-eqb x d same) ∙ or_true (is_listed list d)

-- each marked descriptor below a number is in the list
abbrev pub ListsBelow : List ℕ → ℕ → List ℕ → Type 0
ListsBelow marks n list = (d : ℕ) → d < n → flagged marks d ≡ true → is_listed list d ≡ true

pub below_pushed : (marks list grown : List ℕ) (n x : ℕ) → grown ≡ list ++ x ∷ [] → x ≡ n
    → ListsBelow marks n list → ListsBelow marks (n + 1) grown
below_pushed marks list grown n x is same lists =
    below_more (λ d. flagged marks d ≡ true → is_listed grown d ≡ true) n
    (λ d below marked. listed_still list grown x d is (lists d below marked))
    (λ marked. listed_last list grown x n is same)

pub below_unmarked : (marks list : List ℕ) (n : ℕ) → get_or marks n 0 ≡ 0
    → ListsBelow marks n list → ListsBelow marks (n + 1) list
below_unmarked marks list n none lists =
    below_more (λ d. flagged marks d ≡ true → is_listed list d ≡ true) n lists
    (λ marked. absurd (false≢true (sym (ap (λ (m : ℕ). not (m == 0)) none) ∙ marked)))

-- no descriptor after the marks has one
pub lists_all : (marks list : List ℕ) (n : ℕ) → length marks ≤ n → ListsBelow marks n list
    → ListsAll marks list
lists_all marks list n all lists d marked =
    lists d (lt_of_not-le (λ past. false≢true
    (sym (ap (λ (m : ℕ). not (m == 0)) (get_or_past marks d 0 (omega (arith, all, past)))) ∙ marked)))
    marked

-- ---- the columns of the list

column_listed : (marks list : List ℕ) → ListsAll marks list → (c : Column)
    → CoversColumn (flagged marks) c → CoversColumn (is_listed list) c
column_listed marks list lists (columns.Fact fact) covers = tt
column_listed marks list lists (columns.First d) covers = lists d covers
column_listed marks list lists (columns.Nth d n) covers = lists d covers

columns_listed : (marks list : List ℕ) → ListsAll marks list → (cs : List Column)
    → AllByRecursion (CoversColumn (flagged marks)) cs
    → AllByRecursion (CoversColumn (is_listed list)) cs
columns_listed marks list lists [] covers = tt
columns_listed marks list lists (c ∷ cs) covers =
    (column_listed marks list lists c covers.0, columns_listed marks list lists cs covers.1)

each_listed : (marks list : List ℕ) → ListsAll marks list → (each : Option ℕ)
    → CoversEach (flagged marks) each → CoversEach (is_listed list) each
each_listed marks list lists None covers = tt
each_listed marks list lists (Some d) covers = lists d covers

pub covers_listed : (marks list : List ℕ) (each : Option ℕ) (cs : List Column)
    → ListsAll marks list → Covers (flagged marks) each cs → Covers (is_listed list) each cs
covers_listed marks list each cs lists covers =
    (columns_listed marks list lists cs covers.0, each_listed marks list lists each covers.1)

-- ---- the rows of chosen fields

rows_one : (listed : Bool) (list : List ℕ) (each : Option ℕ) (cells : List Cell) (in_span : Bool)
    (f : Field) (some fields : List Field) → is_listed list f.fxy ≡ listed
    → Covers (is_listed list) each (map (λ c. c.column) cells)
    → ((xs : List Cell) (b : Bool) → Covers (is_listed list) each (map (λ c. c.column) xs)
    → rows_left each xs b some ≡ rows_left each xs b fields)
    → rows_left each cells in_span (cond listed (f ∷ some) some)
    ≡ rows_left each cells in_span (f ∷ fields)
rows_one true list each cells in_span f some fields is covers same =
    let after = after_field each in_span cells f in
    let covered : Covers (is_listed list) each (map (λ c. c.column) after) =
    subst (Covers (is_listed list) each) (sym (columns_after each in_span cells f)) covers in
    rows_step each in_span cells f some
    ∙ ap (λ (text : List ℕ). due each in_span cells f ++ text)
    (same after (in_span || opens each f) covered)
    ∙ sym (rows_step each in_span cells f fields)
rows_one false list each cells in_span f some fields is covers same =
    same cells in_span covers
    ∙ sym (rows_passed (is_listed list) each cells in_span (f ∷ []) fields covers (is, tt))

-- fields that no column asks for change no row
pub rows_chosen : (list : List ℕ) (each : Option ℕ) (cells : List Cell) (in_span : Bool)
    (fields : List Field) → Covers (is_listed list) each (map (λ c. c.column) cells)
    → rows_left each cells in_span (chosen list fields) ≡ rows_left each cells in_span fields
rows_chosen list each cells in_span [] covers = refl
rows_chosen list each cells in_span (f ∷ fields) covers =
    rows_one _ list each cells in_span f (chosen list fields) fields refl covers
    (λ xs b covered. rows_chosen list each xs b fields covered)

-- ---- chosen fields, one after another

none_more : (P : ℕ → Bool) (xs : List Field) (f : Field) → NoneAsked P xs → P f.fxy ≡ false
    → NoneAsked P (xs ++ f ∷ [])
none_more P [] f none unasked = (unasked, tt)
none_more P (x ∷ xs) f none unasked = (none.0, none_more P xs f none.1 unasked)

pub passed_more : (P : ℕ → Bool) (all old new : List Field) (f : Field) → PassesUnasked P all old
    → P f.fxy ≡ false → old ≡ f ∷ new → PassesUnasked P all new
passed_more P all old new f so_far unasked is = (
  so_far.0 ++ f ∷ [],
  none_more P so_far.0 f so_far.1 unasked,
  so_far.2 ∙ ap (λ fields. so_far.0 ++ fields) is ∙ sym (append_assoc so_far.0 (f ∷ []) new),
)

pub asked_none : (P : ℕ → Bool) (all old new : List Field) → PassesUnasked P all old → old ≡ []
    → new ≡ [] → HandsOutAsked P all None new
asked_none P all old new so_far empty none =
    let whole : all ≡ so_far.0 =
    so_far.2 ∙ ap (λ fields. so_far.0 ++ fields) empty ∙ append-nil so_far.0 in
    (subst (NoneAsked P) (sym whole) so_far.1, none)

-- ---- a subset with chosen fields

-- what holds of the subset at an index
pub subset_put : (subsets : List Subset) (i : ℕ) (P : Subset → Type 0) → i < length subsets
    → IfSome (slice_get subsets i) P → (s : Subset) × (slice_get subsets i ≡ Some s) × P s
subset_put subsets i P within holds =
    let s = get_or subsets i (record { fields = [] }) in
    let there : slice_get subsets i ≡ Some s =
    slice_get-get_or subsets i (record { fields = [] }) within in
    (s, there, rw there at holds)

-- the subset whose chosen fields these are
pub subset_there : (list : List ℕ) (i : ℕ) (subsets : List Subset) (fields : List Field)
    → i < length subsets → IfSome (slice_get subsets i) (λ s. fields ≡ chosen list s.fields)
    → (all : List Field) × (slice_get subsets i ≡ Some (record { fields = all }))
    × (fields ≡ chosen list all)
subset_there list i subsets fields within are =
    let s = get_or subsets i (record { fields = [] }) in
    let there : slice_get subsets i ≡ Some s =
    slice_get-get_or subsets i (record { fields = [] }) within in
    (s.fields, there, rw there at are)
