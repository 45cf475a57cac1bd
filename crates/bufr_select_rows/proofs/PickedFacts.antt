-- The rows of a subset, field by field, and of a message, subset by subset: the contracts of
-- `put_fields` and `put_message`.
use Rattle.std.proofs.Common.{◌≡◌, ℕ, ◌+◌, ◌||◌, Bool, true, false, not, List, [], ◌∷◌, ◌++◌, Option, Some, None, map}
use Rattle.std.proofs.Common.{cond, drop, length, take, refl, sym, ap, ◌∙◌, subst, arith}
use Rattle.std.specs.List.{slice_get}
use Rattle.std.specs.Option.{is_some}
use Rattle.std.specs.Prelude.{IfNone}
use Rattle.std.proofs.lemmas.List.{append-nil, at_drop_all, at_drop_more, take_all}
use Rattle.std.proofs.lemmas.Option.{get_or_from_slice_get, slice_get_within}
use Rattle.bufr_fields.specs.declared.field.Field.{Field}
use Rattle.bufr_fields.specs.declared.field.NumberField.{NumberField}
use Rattle.bufr_fields.specs.declared.field.Subset.{Subset}
use Rattle.bufr_bits.specs.Devices.{Writing}
use Rattle.bufr_data.specs.Handed.{HandsOutAsked, PassesUnasked}
use Rattle.bufr_io.specs.HeldLaws.{PutsSome}
use Rattle.bufr_io.specs.declared.held_rows.HeldRows.{HeldRows}
use Rattle.bufr_select_rows.specs.Asks.{Covers, IsSetOf}
use Rattle.bufr_select_rows.specs.Cells.{after_field, begun, due, ended, fresh, noted, opened, opens, opens_at_once}
use Rattle.bufr_select_rows.specs.Cells.{NotesUpTo, rows_left}
use Rattle.bufr_select_rows.specs.CellLaws.{cells_begun, rows_due, rows_none, rows_passed, rows_step}
use Rattle.bufr_select_rows.specs.Rows.{Origin, rows}
use Rattle.bufr_select_rows.specs.declared.cell.Cell.{Cell}
use Rattle.bufr_select_rows.specs.declared.column.Column.{Column}
use Rattle.bufr_select_rows.specs.MessageRows.{subsets_rows}

-- a set covers what is the same
pub covers_same : (asked asked' : List ℕ) (each each' : Option ℕ) (all all' : List Column)
    → asked' ≡ asked → each' ≡ each → all' ≡ all → IsSetOf asked each all
    → IsSetOf asked' each' all'
covers_same asked asked' each each' all all' asked_is each_is all_is covers =
    subst (λ flags. IsSetOf flags each' all') (sym asked_is)
    (subst (λ e. IsSetOf asked e all') (sym each_is)
    (subst (IsSetOf asked each) (sym all_is) covers))

-- a row is made at once, or when a span ends
pub at_once : (each : Option ℕ) (b : Bool) → is_some each ≡ not b → opens_at_once each ≡ b
at_once None true is = refl
at_once None false is = absurd cc
at_once (Some d) true is = absurd cc
at_once (Some d) false is = refl

-- cells that were made have their columns
pub columns_fresh : (all : List Column) → map (λ c. c.column) (map fresh all) ≡ all
columns_fresh [] = refl
columns_fresh (column ∷ all) = ap (λ cs. column ∷ cs) (columns_fresh all)

-- ---- field by field

-- the field that is asked for next
rows_next : (asked : ℕ → Bool) (each : Option ℕ) (cells : List Cell) (in_span : Bool)
    (f : Field) (old new : List Field) → Covers asked each (map (λ c. c.column) cells)
    → HandsOutAsked asked old (Some f) new
    → rows_left each cells in_span old
    ≡ due each in_span cells f
    ++ rows_left each (after_field each in_span cells f) (in_span || opens each f) new
rows_next asked each cells in_span f old new covers hands =
    ap (rows_left each cells in_span) hands.3
    ∙ rows_passed asked each cells in_span hands.0 (f ∷ new) covers hands.1
    ∙ rows_step each in_span cells f new

-- the cells took it, and a span may be open
pub field_next : (asked : ℕ → Bool) (each : Option ℕ) (cells cells' : List Cell)
    (in_span in_span' : Bool) (f : Field) (old new : List Field)
    → Covers asked each (map (λ c. c.column) cells) → HandsOutAsked asked old (Some f) new
    → cells' ≡ after_field each in_span cells f → in_span' ≡ (in_span || opens each f)
    → rows_left each cells in_span old
    ≡ due each in_span cells f ++ rows_left each cells' in_span' new
field_next asked each cells cells' in_span in_span' f old new covers hands cells_are span_is =
    rows_next asked each cells in_span f old new covers hands
    ∙ ap (λ cs. due each in_span cells f ++ rows_left each cs (in_span || opens each f) new)
    (sym cells_are)
    ∙ ap (λ b. due each in_span cells f ++ rows_left each cells' b new) (sym span_is)

-- it opens no other span than the open one
pub span_next : (asked : ℕ → Bool) (each : Option ℕ) (cells cells' : List Cell) (f : Field)
    (old new : List Field) → Covers asked each (map (λ c. c.column) cells)
    → HandsOutAsked asked old (Some f) new → opens each f ≡ false → cells' ≡ map (noted true f) cells
    → rows_left each cells true old ≡ rows_left each cells' true new
span_next asked each cells cells' f old new covers hands closed is =
    field_next asked each cells cells' true true f old new covers hands
    (is ∙ sym (ap (λ b. cond b (map (noted true f) (map opened cells)) (map (noted true f) cells)) closed))
    refl
    ∙ ap (λ b. cond b (ended true cells) [] ++ rows_left each cells' true new) closed

-- it is put, or that stops
pub field_due : (asked : ℕ → Bool) (each : Option ℕ) (cells : List Cell) (in_span : Bool)
    (f : Field) (old new : List Field) → Covers asked each (map (λ c. c.column) cells)
    → HandsOutAsked asked old (Some f) new
    → (rest : List ℕ) × (rows_left each cells in_span old ≡ due each in_span cells f ++ rest)
field_due asked each cells in_span f old new covers hands = (
  rows_left each (after_field each in_span cells f) (in_span || opens each f) new,
  rows_next asked each cells in_span f old new covers hands,
)

-- none is left
pub rows_last : (asked : ℕ → Bool) (each : Option ℕ) (cells : List Cell) (in_span : Bool)
    (old new : List Field) → Covers asked each (map (λ c. c.column) cells)
    → HandsOutAsked asked old None new → rows_left each cells in_span old ≡ ended in_span cells
rows_last asked each cells in_span old new covers hands =
    ap (rows_left each cells in_span) (sym (append-nil old))
    ∙ rows_passed asked each cells in_span old [] covers hands.0
    ∙ rows_none each cells in_span

-- more fields were noted, and the same rows are due
pub some_noted : (each : Option ℕ) (in_span : Bool) (cells : List Cell) (fields : List Field)
    (cells' : List Cell) (mid : List Field) (whole : List ℕ) (r r' : HeldRows) (w w' : Writing)
    → NotesUpTo each in_span cells fields cells' mid
    → PutsSome whole (rows_left each cells in_span fields) r w r' w'
    → PutsSome whole (rows_left each cells' in_span mid) r w r' w'
some_noted each in_span cells fields cells' mid whole r r' w w' notes puts =
    subst (λ t. PutsSome whole t r w r' w') notes.0 puts

-- no field was noted, and none comes next
pub none_noted : (asked : ℕ → Bool) (each : Option ℕ) (in_span : Bool) (cells : List Cell)
    (old new : List Field) (found : Option NumberField) → IfNone found (PassesUnasked asked old new)
    → IfNone found ((mid : List Field) × NotesUpTo each in_span cells old cells mid
    × PassesUnasked asked mid new)
none_noted asked each in_span cells old new None passes = (old, (refl, refl, omega (arith)), passes)
none_noted asked each in_span cells old new (Some n) passes = tt

-- ---- subset by subset

-- the rows of a subset are those of the cells that begin it
pub rows_begun : (each : Option ℕ) (o : Origin) (cells cells' : List Cell) (fields : List Field)
    → cells' ≡ map (λ c. begun o c.column) cells
    → rows_left each cells' (opens_at_once each) fields ≡ rows (map (λ c. c.column) cells) each o fields
rows_begun each o cells cells' fields is =
    ap (λ cs. rows_left each cs (opens_at_once each) fields)
    (is ∙ cells_begun o (map (λ c. c.column) cells) cells refl)
    ∙ rows_due each (map (λ c. c.column) cells) o fields

-- the subset at an index is the first of those that are left
subset_parted : (each : Option ℕ) (all : List Column) (o : Origin) (i : ℕ)
    (subsets : List Subset) (s : Subset) → slice_get subsets i ≡ Some s
    → subsets_rows each all o (i + 1) (drop i subsets)
    ≡ rows all each (record o { subset = i + 1 }) s.fields
    ++ subsets_rows each all o (i + 1 + 1) (drop (i + 1) subsets)
subset_parted each all o i subsets s at =
    at_drop_more (subsets_rows each all o (i + 1)) subsets i s (slice_get_within subsets i s at)
    ∙ ap (λ (x : Subset). rows all each (record o { subset = i + 1 }) x.fields
    ++ subsets_rows each all o (i + 1 + 1) (drop (i + 1) subsets))
    (get_or_from_slice_get subsets i s s at)

-- its rows come next
pub subset_next : (each each' : Option ℕ) (all all' : List Column) (o o' : Origin) (i : ℕ)
    (subsets : List Subset) (fields : List Field) → each' ≡ each → all' ≡ all
    → o' ≡ record o { subset = i + 1 } → slice_get subsets i ≡ Some (record { fields = fields })
    → subsets_rows each all o (i + 1) (drop i subsets)
    ≡ rows all' each' o' fields ++ subsets_rows each all o (i + 1 + 1) (drop (i + 1) subsets)
subset_next each each' all all' o o' i subsets fields each_is all_is here_is at =
    let here : rows all' each' o' fields ≡ rows all each (record o { subset = i + 1 }) fields =
    ap (λ cs. rows cs each' o' fields) all_is ∙ ap (λ e. rows all e o' fields) each_is
    ∙ ap (λ x. rows all each x fields) here_is in
    subset_parted each all o i subsets (record { fields = fields }) at
    ∙ ap (λ (t : List ℕ). t ++ subsets_rows each all o (i + 1 + 1) (drop (i + 1) subsets)) (sym here)

-- ---- a list behind a slice

-- the list has the elements that the slice has then, as many as before
pub all_written : {A : Type 0} (n : ℕ) (new old : List A) → n ≡ length old → length new ≡ length old
    → take n (new ++ drop (length new) old) ≡ new
all_written n new old is same =
    at_drop_all (λ t. take n (new ++ t)) old (length new) (omega (arith, same))
    ∙ ap (take n) (append-nil new) ∙ take_all n new (omega (arith, is, same))
