-- The marks of columns: the contract of `of`.
use Rattle.std.proofs.Common.{◌≡◌, ℕ, zero, suc, ◌+◌, ◌==◌, ◌&&◌, ◌<◌, not, Bool, true, false, List, [], ◌∷◌, ◌++◌}
use Rattle.std.proofs.Common.{take, get_or, length, length-append, sym, ap, ◌∙◌, subst, refl, arith}
use Rattle.std.specs.Prelude.{if◌then◌else◌, nat_lt}
use Rattle.std.specs.List.{AllByRecursion}
use Rattle.std.proofs.lemmas.Bool.{eqb-true}
use Rattle.std.proofs.lemmas.Bool.Decides.{nat_tests}
use Rattle.std.proofs.lemmas.List.{length-take-le, take_more}
use Rattle.bufr_select_rows.specs.Asks.{CoversColumn, MarksColumn, NoneAsks, OnlyAt, flagged, mark_after}
use Rattle.bufr_select_rows.specs.Cells.{asks_for}
use Rattle.bufr_select_rows.specs.declared.column.Column.{Column}
use Rattle.bufr_select_rows.specs.declared.column.Column.TheVariants as columns

-- ---- marks

-- a new mark is one
marked_if : (is : Bool) (index : ℕ) → not ((if is then index + 2 else 1) == 0) ≡ true
marked_if true index = grind (arith, nat_tests)
marked_if false index = refl

marked : (index mark : ℕ) → not (mark_after index mark == 0) ≡ true
marked index mark = marked_if (mark == 0 && nat_lt index 65534) index

-- descriptors keep a mark
kept_if : (is : Bool) (index mark : ℕ) → not (mark == 0) ≡ true
    → not ((if is then mark_after index mark else mark) == 0) ≡ true
kept_if true index mark has = marked index mark
kept_if false index mark has = has

pub marks_kept : (index : ℕ) (column : Column) (old new : List ℕ) → MarksColumn index column old new
    → (d : ℕ) → flagged old d ≡ true → flagged new d ≡ true
marks_kept index column old new marks d has =
    ap (λ (n : ℕ). not (n == 0)) (marks d) ∙ kept_if (asks_for d column) index (get_or old d 0) has

-- that of the column has one
same_number : (d : ℕ) → (d == d) ≡ true
same_number d = grind (arith, nat_tests)

pub column_marked : (index : ℕ) (column : Column) (old new : List ℕ)
    → MarksColumn index column old new → CoversColumn (flagged new) column
column_marked index (columns.Fact fact) old new marks = tt
column_marked index (columns.First d) old new marks =
    ap (λ (n : ℕ). not (n == 0))
    (marks d ∙ ap (λ b. if b then mark_after index (get_or old d 0) else get_or old d 0)
    (same_number d))
    ∙ marked index (get_or old d 0)
column_marked index (columns.Nth d n) old new marks =
    ap (λ (n : ℕ). not (n == 0))
    (marks d ∙ ap (λ b. if b then mark_after index (get_or old d 0) else get_or old d 0)
    (same_number d))
    ∙ marked index (get_or old d 0)

-- ---- the columns that a set covers

-- marks that stay cover a column still
column_kept : (old new : List ℕ) → ((d : ℕ) → flagged old d ≡ true → flagged new d ≡ true)
    → (column : Column) → CoversColumn (flagged old) column → CoversColumn (flagged new) column
column_kept old new kept (columns.Fact fact) covers = tt
column_kept old new kept (columns.First d) covers = kept d covers
column_kept old new kept (columns.Nth d n) covers = kept d covers

-- so they do with all columns
pub columns_kept : (old new : List ℕ)
    → ((d : ℕ) → flagged old d ≡ true → flagged new d ≡ true) → (cs : List Column)
    → AllByRecursion (CoversColumn (flagged old)) cs → AllByRecursion (CoversColumn (flagged new)) cs
columns_kept old new kept [] all = tt
columns_kept old new kept (c ∷ cs) all =
    (column_kept old new kept c all.0, columns_kept old new kept cs all.1)

-- what holds of all and of one more
all_more : (P : Column → Type 0) (cs : List Column) (c : Column) → AllByRecursion P cs → P c
    → AllByRecursion P (cs ++ c ∷ [])
all_more P [] c all here = (here, tt)
all_more P (x ∷ cs) c all here = (all.0, all_more P cs c all.1 here)

-- ---- the only column

-- the marks of columns: each above 1 names the only one, and without a mark there is none
pub record AreMarks (marks : List ℕ) (cs : List Column) : Type 0 where
  pub covers : AllByRecursion (CoversColumn (flagged marks)) cs
  pub named : (d i : ℕ) → get_or marks d 0 ≡ i + 2 → (i < length cs) × OnlyAt d i cs
  pub none : (d : ℕ) → get_or marks d 0 ≡ 0 → NoneAsks d cs

-- another column is not the one
only_more : (d i : ℕ) (cs : List Column) (c : Column) → i < length cs → OnlyAt d i cs
    → asks_for d c ≡ false → OnlyAt d i (cs ++ c ∷ [])
only_more d i [] c inside only other = absurd (omega (arith, inside))
only_more d zero (x ∷ cs) c inside only other =
    all_more (λ y. asks_for d y ≡ false) cs c only other
only_more d (suc i) (x ∷ cs) c inside only other =
    (only.0, only_more d i cs c (omega (arith, inside)) only.1 other)

-- the last one is
only_last : (d : ℕ) (cs : List Column) (c : Column) → NoneAsks d cs
    → OnlyAt d (length cs) (cs ++ c ∷ [])
only_last d [] c none = tt
only_last d (x ∷ cs) c none = (none.0, only_last d cs c none.1)

-- a new mark of a descriptor
new_mark : (is : Bool) (d i : ℕ) (mark : ℕ) (cs : List Column) (c : Column)
    → (mark == 0 && nat_lt (length cs) 65534) ≡ is → (mark ≡ 0 → NoneAsks d cs)
    → (if is then length cs + 2 else 1) ≡ i + 2
    → (i < length (cs ++ c ∷ [])) × OnlyAt d i (cs ++ c ∷ [])
new_mark true d i mark cs c is none at =
    let here : i ≡ length cs = omega (arith, at) in
    let zero_mark : mark ≡ 0 = front_zero (mark == 0) refl is in (
      omega (arith, here, length_more cs),
      subst (λ k. OnlyAt d k (cs ++ c ∷ [])) (sym here) (only_last d cs c (none zero_mark)),
    )
  where
    front_zero : (b : Bool) → (mark == 0) ≡ b → (b && nat_lt (length cs) 65534) ≡ true → mark ≡ 0
    front_zero true same both = eqb-true mark 0 same
    front_zero false same both = absurd cc

    length_more : (xs : List Column) → length (xs ++ c ∷ []) ≡ length xs + 1
    length_more [] = refl
    length_more (x ∷ xs) = let rest = length_more xs in omega (arith, rest)
new_mark false d i mark cs c is none at = absurd (omega (arith, at))

-- the mark of a descriptor after one column more
mark_if : (is : Bool) (d i : ℕ) (marks : List ℕ) (cs : List Column) (c : Column)
    → AreMarks marks cs → asks_for d c ≡ is
    → (if is then mark_after (length cs) (get_or marks d 0) else get_or marks d 0) ≡ i + 2
    → (i < length (cs ++ c ∷ [])) × OnlyAt d i (cs ++ c ∷ [])
mark_if true d i marks cs c are asks at =
    new_mark (get_or marks d 0 == 0 && nat_lt (length cs) 65534) d i (get_or marks d 0) cs c refl
    (are.none d) at
mark_if false d i marks cs c are asks at =
    let named = are.named d i at in
    (longer cs named.0, only_more d i cs c named.0 named.1 asks)
  where
    longer : (xs : List Column) → i < length xs → i < length (xs ++ c ∷ [])
    longer xs inside = omega (arith, inside, length-append xs (c ∷ []))

none_if : (is : Bool) (d : ℕ) (marks : List ℕ) (cs : List Column) (c : Column)
    → AreMarks marks cs → asks_for d c ≡ is
    → (if is then mark_after (length cs) (get_or marks d 0) else get_or marks d 0) ≡ 0
    → NoneAsks d (cs ++ c ∷ [])
none_if true d marks cs c are asks at =
    absurd (no_mark (mark_after (length cs) (get_or marks d 0)) at
    (marked (length cs) (get_or marks d 0)))
  where
    no_mark : (n : ℕ) → n ≡ 0 → not (n == 0) ≡ true → ⊥
    no_mark n none has = grind (arith, nat_tests)
none_if false d marks cs c are asks at =
    all_more (λ y. asks_for d y ≡ false) cs c (are.none d at) asks

-- the marks of one column more
marks_more : (index : ℕ) (old new : List ℕ) (cs : List Column) (c : Column) → index ≡ length cs
    → MarksColumn index c old new → AreMarks old cs → AreMarks new (cs ++ c ∷ [])
marks_more index old new cs c at marks are =
    let marks_here : MarksColumn (length cs) c old new =
    subst (λ k. MarksColumn k c old new) at marks in
    record {
      covers = all_more (CoversColumn (flagged new)) cs c
          (columns_kept old new (marks_kept index c old new marks) cs are.covers)
          (column_marked index c old new marks);
      named = λ d i is. mark_if (asks_for d c) d i old cs c are refl (sym (marks_here d) ∙ is);
      none = λ d is. none_if (asks_for d c) d old cs c are refl (sym (marks_here d) ∙ is);
    }

pub columns_next : (old new : List ℕ) (cs : List Column) (i index : ℕ) (c : Column) → i < length cs
    → c ≡ get_or cs i c → index ≡ i → MarksColumn index c old new → AreMarks old (take i cs)
    → AreMarks new (take (i + 1) cs)
columns_next old new cs i index c inside is at marks are =
    subst (AreMarks new)
    (ap (λ x. take i cs ++ x ∷ []) is ∙ sym (take_more cs i c inside))
    (marks_more index old new (take i cs) c
    (at ∙ sym (length-take-le i cs (omega (arith, inside)))) marks are)

-- without a column there is no mark
pub no_marks : (marks : List ℕ) → ((d : ℕ) → get_or marks d 0 ≡ 0) → AreMarks marks []
no_marks marks none = record {
  covers = tt;
  named = λ d i is. absurd (omega (arith, none d, is));
  none = λ d is. tt;
}
