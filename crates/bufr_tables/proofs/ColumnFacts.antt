-- Columns and records taken one by one, and the header.
use Rattle.std.proofs.Common.{◌≡◌, ◌≢◌, ◌∙◌, ℕ, suc, ◌<◌, ◌≤◌, ◌==◌, ◌+◌, Bool, true, false, List}
use Rattle.std.proofs.Common.{[], ◌∷◌, ◌++◌, length, get_or, map, drop, Option, Some, None, Result}
use Rattle.std.proofs.Common.{Ok, Err, refl, ap, sym, arith, append_assoc, add-one, drop-cons, not}
use Rattle.std.specs.Prelude.{position, bytes_eq, MatchBool}
use Rattle.std.specs.List.{prefix_len}
use Rattle.bufr_base.specs.Answers.{◌>>=◌}
use Rattle.std.specs.List.{list_all}
use Rattle.std.specs.Cmp.Lexicographic.{pointwise}
use Rattle.std.proofs.lemmas.Bool.Decides.{nat_tests}
use Rattle.std.proofs.lemmas.List.{length-map, append-nil, drop_all}
use Rattle.bufr_tables.specs.Fields.{used_fields}
use Rattle.bufr_tables.specs.TableFiles.{column_at, columns_at, cells_at, is_skipped, row_cells}
use Rattle.bufr_tables.specs.TableFiles.{after_record, after_records, after_file, TakesHeader, columns_b}
use Rattle.bufr_tables.specs.TableFiles.{columns_d}
use Rattle.bufr_tables.specs.declared.table_faults.TableFault.TheVariants.{NotCsv}
use Rattle.bufr_tables.specs.declared.table_faults.Column.{Column}
use Rattle.bufr_tables.specs.declared.table_faults.TableFault.{TableFault}

prefix_len-map : {X Y : Type 0} (p : Y → Bool) (f : X → Y) (xs : List X)
    → prefix_len p (map f xs) ≡ prefix_len (λ x. p (f x)) xs
prefix_len-map p f [] = refl
prefix_len-map p f (x ∷ xs) = rw (prefix_len-map p f xs)

pub position-map : {X Y : Type 0} (p : Y → Bool) (f : X → Y) (xs : List X)
    → position p (map f xs) ≡ position (λ x. p (f x)) xs
position-map p f xs = rw (prefix_len-map (λ y. not (p y)) f xs, length-map xs f)

pub ColumnsSoFar : List (List ℕ) → List Column → ℕ → List ℕ → Type 0
ColumnsSoFar h needed k places =
    columns_at h needed ≡ (columns_at h (drop k needed) >>= λ is. Ok (places ++ is))

pub columns_none : (h : List (List ℕ)) (needed : List Column) → ColumnsSoFar h needed 0 []
unfolding ColumnsSoFar
columns_none h needed = same (columns_at h needed)
  where
    same : (r : Result (List ℕ) TableFault) → r ≡ (r >>= λ is. Ok ([] ++ is))
    same (Ok is) = refl
    same (Err e) = refl

after-column : (h : List (List ℕ)) (c : Column) (cs : List Column) (places : List ℕ) (i : ℕ)
    → column_at h c ≡ Ok i
    → (columns_at h (c ∷ cs) >>= λ is. Ok (places ++ is))
    ≡ (columns_at h cs >>= λ is. Ok ((places ++ i ∷ []) ++ is))
after-column h c cs places i e = rw e (regroup (columns_at h cs))
  where
    regroup : (r : Result (List ℕ) TableFault)
        → ((r >>= λ is. Ok (i ∷ is)) >>= λ is. Ok (places ++ is))
        ≡ (r >>= λ is. Ok ((places ++ i ∷ []) ++ is))
    regroup (Ok is) = ap Ok (sym (append_assoc places (i ∷ []) is))
    regroup (Err f) = refl

pub columns_more : (h : List (List ℕ)) (needed : List Column) (k : ℕ) (places : List ℕ) (i : ℕ)
    (d : Column) → k < length needed → ColumnsSoFar h needed k places
    → column_at h (get_or needed k d) ≡ Ok i → ColumnsSoFar h needed (k + 1) (places ++ i ∷ [])
unfolding ColumnsSoFar
columns_more h needed k places i d lt so e =
    so
    ∙ rw (drop-cons needed k d)
    (after-column h (get_or needed k d) (drop (suc k) needed) places i e ∙ rw (← add-one k))

pub columns_stop : (h : List (List ℕ)) (needed : List Column) (k : ℕ) (places : List ℕ)
    (f : TableFault) (d : Column) → k < length needed → ColumnsSoFar h needed k places
    → column_at h (get_or needed k d) ≡ Err f → columns_at h needed ≡ Err f
unfolding ColumnsSoFar
columns_stop h needed k places f d lt so e = so ∙ rw (drop-cons needed k d, e)

pub columns_all : (h : List (List ℕ)) (needed : List Column) (k : ℕ) (places : List ℕ)
    → length needed ≤ k → k ≤ length needed → ColumnsSoFar h needed k places
    → columns_at h needed ≡ Ok places
unfolding ColumnsSoFar
columns_all h needed k places p q so =
    let e : k ≡ length needed = omega arith in
    so ∙ rw (e, drop_all (length needed) needed (omega arith)) (ap Ok (append-nil places))

pub row_cells-unequal : (h : List (List ℕ)) (places : List ℕ) (n : ℕ) (raw : List (List ℕ))
    → length raw ≢ length h → row_cells h places n raw ≡ Err (NotCsv n)
unfolding row_cells
row_cells-unequal h places n raw ne =
    let e : (length raw == length h) ≡ false = grind (arith, nat_tests) in rw e

pub row_cells-skipped : (h : List (List ℕ)) (places : List ℕ) (n : ℕ) (raw : List (List ℕ))
    → length raw ≡ length h → is_skipped h (used_fields raw) places ≡ true
    → row_cells h places n raw ≡ Ok None
unfolding row_cells
row_cells-skipped h places n raw same skip =
    let e : (length raw == length h) ≡ true = grind (arith, nat_tests) in rw (e, skip)

pub row_cells-used : (h : List (List ℕ)) (places : List ℕ) (n : ℕ) (raw : List (List ℕ))
    → length raw ≡ length h → is_skipped h (used_fields raw) places ≡ false
    → row_cells h places n raw ≡ Ok (Some (cells_at (used_fields raw) places))
unfolding row_cells
row_cells-used h places n raw same skip =
    let e : (length raw == length h) ≡ true = grind (arith, nat_tests) in rw (e, skip)

pub is_skipped-same : (h fields : List (List ℕ)) (places : List ℕ)
    → pointwise bytes_eq fields h ≡ true → is_skipped h fields places ≡ true
is_skipped-same h fields places p = rw p

pub is_skipped-by : (h fields : List (List ℕ)) (places : List ℕ) (b : Bool)
    → pointwise bytes_eq fields h ≡ false
    → list_all (λ text. length text == 0) (cells_at fields places) ≡ b
    → is_skipped h fields places ≡ b
is_skipped-by h fields places b p q = rw p q

pub header-none : (found : Bool) (file left : List (List (List ℕ))) (raw row : List (List ℕ))
    → found ≡ false → MatchBool found (file ≡ raw ∷ left) (file ≡ []) → row ≡ []
    → TakesHeader file row left
header-none found file left raw row f m e = let g : file ≡ [] = rw f at m in rw g e

pub header-some : (found : Bool) (file left : List (List (List ℕ))) (raw row : List (List ℕ))
    → found ≡ true → MatchBool found (file ≡ raw ∷ left) (file ≡ []) → row ≡ raw
    → TakesHeader file row left
header-some found file left raw row f m e = let g : file ≡ raw ∷ left = rw f at m in rw g (e, refl)

pub file_fault : {A R : Type 0} (needed : List Column) (row_of : List (List ℕ) → Option R)
    (add : A → R → Result A TableFault) (none : A) (file left : List (List (List ℕ)))
    (raw : List (List ℕ)) (f : TableFault) → TakesHeader file raw left
    → columns_at (used_fields raw) needed ≡ Err f → after_file needed row_of add none file ≡ Err f
file_fault needed row_of add none [] left raw f t e =
    let g : columns_at [] needed ≡ Err f = rw t at e in rw g
file_fault needed row_of add none (first ∷ rest) left raw f t e =
    let g : columns_at (used_fields first) needed ≡ Err f = rw t.0 at e in rw g

pub file_rows : {A R : Type 0} (needed : List Column) (row_of : List (List ℕ) → Option R)
    (add : A → R → Result A TableFault) (none : A) (file left : List (List (List ℕ)))
    (raw : List (List ℕ)) (places : List ℕ) → ((p : List ℕ) → columns_at [] needed ≡ Ok p → ⊥)
    → TakesHeader file raw left → columns_at (used_fields raw) needed ≡ Ok places
    → after_file needed row_of add none file
    ≡ after_records row_of add (used_fields raw) places 2 left none
file_rows needed row_of add none [] left raw places absent t e = absurd (absent places (rw t at e))
file_rows needed row_of add none (first ∷ rest) left raw places absent t e =
    let g : columns_at (used_fields first) needed ≡ Ok places = rw t.0 at e in rw (g, t.0, t.1)

pub needs_b : (p : List ℕ) → columns_at [] columns_b ≡ Ok p → ⊥
needs_b p e = cc

pub needs_d : (p : List ℕ) → columns_at [] columns_d ≡ Ok p → ⊥
needs_d p e = cc

pub records_more : {A R : Type 0} (row_of : List (List ℕ) → Option R)
    (add : A → R → Result A TableFault) (h : List (List ℕ)) (places : List ℕ) (n : ℕ)
    (raw : List (List ℕ)) (rest : List (List (List ℕ))) (so_far new : A)
    → after_record row_of add h places n raw so_far ≡ Ok new
    → after_records row_of add h places n (raw ∷ rest) so_far
    ≡ after_records row_of add h places (n + 1) rest new
unfolding after_records
records_more row_of add h places n raw rest so_far new e = rw e

pub records_stop : {A R : Type 0} (row_of : List (List ℕ) → Option R)
    (add : A → R → Result A TableFault) (h : List (List ℕ)) (places : List ℕ) (n : ℕ)
    (raw : List (List ℕ)) (rest : List (List (List ℕ))) (so_far : A) (f : TableFault)
    → after_record row_of add h places n raw so_far ≡ Err f
    → after_records row_of add h places n (raw ∷ rest) so_far ≡ Err f
unfolding after_records
records_stop row_of add h places n raw rest so_far f e = rw e

pub records_end : {A R : Type 0} (row_of : List (List ℕ) → Option R)
    (add : A → R → Result A TableFault) (h : List (List ℕ)) (places : List ℕ) (n : ℕ) (so_far : A)
    → after_records row_of add h places n [] so_far ≡ Ok so_far
unfolding after_records
records_end row_of add h places n so_far = refl
