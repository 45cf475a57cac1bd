-- The descriptors that columns ask for.
use Rattle.std.specs.Prelude.{◌≡◌, ℕ, zero, suc, ◌+◌, ◌==◌, ◌&&◌, not, nat_lt, Bool, true, false}
use Rattle.std.specs.Prelude.{List, [], ◌∷◌, Option, Some, None, get_or, if◌then◌else◌}
use Rattle.std.specs.List.{AllByRecursion}
use Rattle.bufr_data.specs.Chosen.{is_listed}
use Rattle.bufr_select_rows.specs.Cells.{asks_for}
use Rattle.bufr_select_rows.specs.declared.column.Column.{Column}
use Rattle.bufr_select_rows.specs.declared.column.Column.TheVariants as columns

-- a set has the descriptor of a column
abbrev pub CoversColumn : (ℕ → Bool) → Column → Type 0
CoversColumn asked (columns.Fact fact) = Unit {0}
CoversColumn asked (columns.First d) = asked d ≡ true
CoversColumn asked (columns.Nth d n) = asked d ≡ true

-- a set has the descriptor of the fields that open spans
abbrev pub CoversEach : (ℕ → Bool) → Option ℕ → Type 0
CoversEach asked None = Unit {0}
CoversEach asked (Some each) = asked each ≡ true

-- a set has all descriptors that are asked for
abbrev pub Covers : (ℕ → Bool) → Option ℕ → List Column → Type 0
Covers asked each columns = AllByRecursion (CoversColumn asked) columns × CoversEach asked each

-- ---- the marks of descriptors (private contracts)

-- the set of descriptors with a mark
abbrev pub flagged : List ℕ → ℕ → Bool
flagged marks d = not (get_or marks d 0 == 0)

-- each descriptor with a mark is in the list
abbrev pub ListsAll : List ℕ → List ℕ → Type 0
ListsAll marks list = (d : ℕ) → flagged marks d ≡ true → is_listed list d ≡ true

-- the mark of a descriptor once the cell at an index asks for it too: the mark of the index, or 1
-- if another cell asks for it
abbrev pub mark_after : ℕ → ℕ → ℕ
mark_after index mark = if mark == 0 && nat_lt index 65534 then index + 2 else 1

-- a descriptor was marked for the cell at an index
abbrev pub MarksFor : ℕ → ℕ → List ℕ → List ℕ → Type 0
MarksFor index e old new = (d : ℕ) → get_or new d 0
    ≡ (if d == e then mark_after index (get_or old d 0) else get_or old d 0)

-- the descriptor of a column was marked
abbrev pub MarksColumn : ℕ → Column → List ℕ → List ℕ → Type 0
MarksColumn index column old new = (d : ℕ) → get_or new d 0
    ≡ (if asks_for d column then mark_after index (get_or old d 0) else get_or old d 0)

-- no column asks for a descriptor
abbrev pub NoneAsks : ℕ → List Column → Type 0
NoneAsks d columns = AllByRecursion (λ c. asks_for d c ≡ false) columns

-- no column but the one at an index asks for a descriptor
abbrev pub OnlyAt : ℕ → ℕ → List Column → Type 0
OnlyAt d i [] = Unit {0}
OnlyAt d zero (c ∷ columns) = NoneAsks d columns
OnlyAt d (suc i) (c ∷ columns) = (asks_for d c ≡ false) × OnlyAt d i columns

-- a mark above 1 names the only column that asks for its descriptor
abbrev pub Finds : List ℕ → List Column → Type 0
Finds marks columns = (d i : ℕ) → get_or marks d 0 ≡ i + 2 → OnlyAt d i columns

-- marks are those of columns and of `each`
abbrev pub IsSetOf : List ℕ → Option ℕ → List Column → Type 0
IsSetOf marks each columns = Covers (flagged marks) each columns × Finds marks columns
