-- Settled cells: no later field changes the row.
use Rattle.std.proofs.Common.{◌≡◌, ◌==◌, ◌≤◌, ℕ, zero, suc, ◌&&◌, ◌||◌, not, Bool, true, false, List, [], ◌∷◌, Some, None, length}
use Rattle.std.proofs.Common.{map, take, cond, refl, sym, ap, ◌∙◌, ◌+◌, subst, arith, length-append}
use Rattle.std.specs.List.{list_all}
use Rattle.std.proofs.lemmas.Bool.{eqb-true}
use Rattle.std.proofs.lemmas.List.{take_all}
use Rattle.bufr_fields.specs.declared.field.Field.{Field}
use Rattle.bufr_data.specs.Handed.{HandsOutAsked, NoneAsked, PassesUnasked}
use Rattle.bufr_select_rows.specs.Asks.{Covers}
use Rattle.bufr_select_rows.specs.CellLaws.{columns_after, rows_passed}
use Rattle.bufr_select_rows.specs.Cells.{AreSettled, counted, counted_at, is_settled, noted, noted_by}
use Rattle.bufr_select_rows.specs.Cells.{row_of, rows_left, settled_by}
use Rattle.bufr_select_rows.specs.Cells.{asks_for, is_awaited, waits_for}
use Rattle.bufr_select_rows.specs.declared.cell.Cell.{Cell}
use Rattle.bufr_select_rows.specs.declared.column.Column.{Column}
use Rattle.bufr_select_rows.specs.declared.column.Column.TheVariants as columns
use Rattle.bufr_select_rows.proofs.PickedFacts.{field_next}

-- a choice between two that are the same
choice_same : {A : Type 0} (b : Bool) (x y : A) → x ≡ y → cond b x y ≡ y
choice_same true x y is = is
choice_same false x y is = refl

-- a choice that is not made, or that changes nothing
choice_unmoved : {A : Type 0} (settled is : Bool) (x y : A) → (settled ≡ true → x ≡ y)
    → (not settled && is) ≡ false → cond is x y ≡ y
choice_unmoved true is x y same unwanted = choice_same is x y (same refl)
choice_unmoved false true x y same unwanted = absurd cc
choice_unmoved false false x y same unwanted = refl

-- neither holds
both_false : (a b : Bool) → (a || b) ≡ false → (a ≡ false) × (b ≡ false)
both_false true b is = absurd cc
both_false false b is = (refl, is)

-- a settled cell stays as it is, by its column
stays_by : (column : Column) (f : Field) (c : Cell) → settled_by column c ≡ true
    → noted_by column true f c ≡ c
stays_by (columns.Fact fact) f c settled = refl
stays_by (columns.First d) f c settled =
    choice_same (f.fxy == d) (counted f c) c (ap (λ n. counted_at n f c) (eqb-true c.ahead 0 settled))
stays_by (columns.Nth d n) f c settled =
    choice_same (f.fxy == d) (counted f c) c (ap (λ k. counted_at k f c) (eqb-true c.ahead 0 settled))

-- both hold
both_true : (a b : Bool) → (a && b) ≡ true → (a ≡ true) × (b ≡ true)
both_true true b is = (refl, is)
both_true false b is = absurd cc

-- all cells are settled, so they stay as they are
all_stay : (f : Field) (cells : List Cell) → list_all is_settled cells ≡ true
    → map (noted true f) cells ≡ cells
all_stay f [] settled = refl
all_stay f (c ∷ cells) settled =
    let both = both_true (is_settled c) (list_all is_settled cells) settled in
    ap (λ x. x ∷ map (noted true f) cells) (stays_by c.column f c both.0)
    ∙ ap (λ cs. c ∷ cs) (all_stay f cells both.1)

-- so no later field changes the row
pub rows_settled : (cells : List Cell) (fields : List Field) → list_all is_settled cells ≡ true
    → rows_left None cells true fields ≡ row_of cells
unfolding rows_left
rows_settled cells [] settled = refl
rows_settled cells (f ∷ fields) settled =
    ap (λ cs. rows_left None cs true fields) (all_stay f cells settled)
    ∙ rows_settled cells fields settled

-- a cell that does not wait for a field stays as it is
unmoved_by : (column : Column) (f : Field) (c : Cell)
    → (not (settled_by column c) && asks_for f.fxy column) ≡ false → noted_by column true f c ≡ c
unmoved_by (columns.Fact fact) f c unwanted = refl
unmoved_by (columns.First d) f c unwanted = choice_unmoved (c.ahead == 0) (f.fxy == d) _ c
    (λ settled. ap (λ n. counted_at n f c) (eqb-true c.ahead 0 settled)) unwanted
unmoved_by (columns.Nth d n) f c unwanted = choice_unmoved (c.ahead == 0) (f.fxy == d) _ c
    (λ settled. ap (λ n. counted_at n f c) (eqb-true c.ahead 0 settled)) unwanted

-- cells that do not wait for a field stay as they are
all_unmoved : (f : Field) (cells : List Cell) → is_awaited cells f.fxy ≡ false
    → map (noted true f) cells ≡ cells
all_unmoved f [] unwanted = refl
all_unmoved f (c ∷ cells) unwanted =
    let both = both_false (waits_for f.fxy c) (is_awaited cells f.fxy) unwanted in
    ap (λ x. x ∷ map (noted true f) cells) (unmoved_by c.column f c both.0)
    ∙ ap (λ cs. c ∷ cs) (all_unmoved f cells both.1)

-- so fields that no cell waits for do not change the row
pub rows_unmoved : (cells : List Cell) (fields : List Field)
    → NoneAsked (is_awaited cells) fields → rows_left None cells true fields ≡ row_of cells
unfolding rows_left
rows_unmoved cells [] none = refl
rows_unmoved cells (f ∷ fields) none =
    ap (λ cs. rows_left None cs true fields) (all_unmoved f cells none.0)
    ∙ rows_unmoved cells fields none.1

-- the first cells stay settled
settled_kept : (n : ℕ) (f : Field) (cells : List Cell) → AreSettled n cells
    → AreSettled n (map (noted true f) cells)
settled_kept zero f cells settled = refl
settled_kept (suc n) f [] settled = refl
settled_kept (suc n) f (c ∷ cells) settled =
    let both = both_true (is_settled c) (list_all is_settled (take n cells)) settled in
    ap (λ x. is_settled x && list_all is_settled (take n (map (noted true f) cells)))
    (stays_by c.column f c both.0)
    ∙ ap (λ b. is_settled c && b) (settled_kept n f cells both.1)
    ∙ ap (λ b. b && true) both.0

-- all cells are among the first n
pub all_settled : (n : ℕ) (cells : List Cell) → length cells ≤ n → AreSettled n cells
    → list_all is_settled cells ≡ true
all_settled n cells within settled = ap (list_all is_settled) (sym (take_all n cells within)) ∙ settled

-- the cells took the next field, and none of its row is due
pub row_next : (asked : ℕ → Bool) (cells cells' : List Cell) (f : Field) (old new : List Field)
    → Covers asked None (map (λ c. c.column) cells) → HandsOutAsked asked old (Some f) new
    → cells' ≡ map (noted true f) cells
    → rows_left None cells true old ≡ rows_left None cells' true new
row_next asked cells cells' f old new covers hands is =
    field_next asked None cells cells' true true f old new covers hands is refl

-- fields were skipped that are not asked for
pub row_passed : (asked : ℕ → Bool) (cells : List Cell) (old new : List Field)
    → Covers asked None (map (λ c. c.column) cells) → PassesUnasked asked old new
    → rows_left None cells true old ≡ rows_left None cells true new
row_passed asked cells old new covers passes =
    ap (rows_left None cells true) passes.2
    ∙ rows_passed asked None cells true passes.0 new covers passes.1

-- fewer fields are left
pub passes_fewer : (asked : ℕ → Bool) (old new : List Field) → PassesUnasked asked old new
    → length new ≤ length old
passes_fewer asked old new passes =
    omega (arith, ap length passes.2, length-append passes.0 new)

pub hands_fewer : (asked : ℕ → Bool) (f : Field) (old new : List Field)
    → HandsOutAsked asked old (Some f) new → length new + 1 ≤ length old
hands_fewer asked f old new hands =
    omega (arith, ap length hands.3, length-append hands.0 (f ∷ new))

-- they have the same columns, and the first ones stay settled
pub columns_kept : (cells cells' : List Cell) (f : Field) → cells' ≡ map (noted true f) cells
    → map (λ c. c.column) cells' ≡ map (λ c. c.column) cells
columns_kept cells cells' f is =
    ap (λ (cs : List Cell). map (λ c. c.column) cs) is ∙ columns_after None true cells f

pub settled_next : (n : ℕ) (cells cells' : List Cell) (f : Field) → cells' ≡ map (noted true f) cells
    → AreSettled n cells → AreSettled n cells'
settled_next n cells cells' f is settled =
    subst (AreSettled n) (sym is) (settled_kept n f cells settled)
