-- What reading a file's records one by one returns, for any kind of row: the half that the four
-- laws share.
use Rattle.std.proofs.Common.{◌≡◌, ◌∙◌, ◌⊎◌, inl, inr, ℕ, ◌+◌, ◌<◌, ◌==◌, Bool, true, false, List}
use Rattle.std.proofs.Common.{[], ◌∷◌, ◌++◌, length, get_or, Option, Some, None, Result, Ok, Err}
use Rattle.std.proofs.Common.{refl, sym, ap, subst, arith}
use Rattle.std.specs.Prelude.{bytes_eq, position, Contains, All}
use Rattle.std.specs.Bool.{Decides}
use Rattle.std.specs.List.{AllZip, list_all, position_from}
use Rattle.std.specs.Cmp.Lexicographic.{pointwise}
use Rattle.std.proofs.lemmas.Bool.{cases_order, cases_Bool, false_from_ne_true}
use Rattle.std.proofs.lemmas.Bool.Decides.{Decides-eqb, Decides-or, Decides-by_and}
use Rattle.std.proofs.lemmas.Iterator.Adapters.{position_from-zero}
use Rattle.std.proofs.lemmas.List.Elements.{Contains-get_or, All-nil, All-cons, All-head, All-tail}
use Rattle.std.proofs.lemmas.List.Quantifiers.{position-Some}
use Rattle.std.proofs.lemmas.Slice.Eq.{bytes_eq-Decides, slice_eq-Decides}
use Rattle.bufr_tables.specs.declared.table_faults.Column.{Column}
use Rattle.bufr_tables.specs.declared.table_faults.TableFault.{TableFault}
use Rattle.bufr_tables.specs.declared.table_faults.TableFault.TheVariants.{NoColumn, NotCsv, BadRow}
use Rattle.bufr_base.specs.Answers.{◌>>=◌}
use Rattle.bufr_tables.specs.Fields.{used_fields}
use Rattle.bufr_tables.specs.Sheets.{HasColumn, StandsAt, IsFirstAbsent, IsNotCsv, TellsNothing}
use Rattle.bufr_tables.specs.Sheets.{IsSkipped, IsRow, IsBadRow, AreRows, no_record, skipped_first}
use Rattle.bufr_tables.specs.Sheets.{row_first, HasRows}
use Rattle.bufr_tables.specs.Titles.{title}
use Rattle.bufr_tables.specs.TableFiles.{found_or_absent, column_at, columns_at, cells_at}
use Rattle.bufr_tables.specs.TableFiles.{is_skipped, row_cells, joined, after_record, after_records}
use Rattle.bufr_tables.specs.TableFiles.{after_file, header_of, rows_of}
use Rattle.bufr_tables.proofs.ColumnFacts.{row_cells-unequal, row_cells-skipped, row_cells-used}
use Rattle.bufr_tables.proofs.MemberFacts.{contains-none, contains-cases}
use Rattle.bufr_tables.proofs.ParseFacts.{then-gives}

pub then-stops : {X Y : Type 0} (r : Result X TableFault) (f : X → Result Y TableFault)
    (e : TableFault) → r ≡ Err e → (r >>= f) ≡ Err e
then-stops r f e h = rw h

none-passes : {X : Type 0} (p : X → Bool) (n : ℕ) (xs : List X) → position_from p n xs ≡ None
    → (x : X) → Contains xs x → p x ≡ false
none-passes p n [] h x m = absurd (contains-none x m)
none-passes p n (y ∷ ys) h x m =
    elim (cases_Bool (p y)) [
      | inl e ↦ absurd (let g : Some n ≡ None = rw e at h in cc)
      | inr e ↦
          elim (contains-cases y x ys m)
          [ inl q ↦ rw (← q) e | inr k ↦ none-passes p (n + 1) ys (rw e at h) x k ]
    ]

column-cases : (header : List (List ℕ)) (c : Column)
    → ((i : ℕ) × (column_at header c ≡ Ok i) × StandsAt header c i) ⊎
    ((column_at header c ≡ Err (NoColumn c)) × (HasColumn header c → ⊥))
column-cases header c = go (position (λ name. bytes_eq name (title c)) header) refl
  where
    go : (o : Option ℕ) → position (λ name. bytes_eq name (title c)) header ≡ o
        → ((i : ℕ) × (column_at header c ≡ Ok i) × StandsAt header c i)
        ⊎ ((column_at header c ≡ Err (NoColumn c)) × (HasColumn header c → ⊥))
    go None e =
        inr (
          ap (found_or_absent c) e,
          λ m.
              let f : bytes_eq (title c) (title c) ≡ false =
              none-passes (λ name. bytes_eq name (title c)) 0 header
              (sym (position_from-zero (λ name. bytes_eq name (title c)) header) ∙ e)
              (title c) m in
              let t : bytes_eq (title c) (title c) ≡ true =
              (bytes_eq-Decides (title c) (title c)).1 refl in
              let w : true ≡ false = sym t ∙ f in cc,
        )
    go (Some i) e =
        let s = position-Some (λ name. bytes_eq name (title c)) header i [] e in
        inl (
          i,
          ap (found_or_absent c) e,
          (
            s.0,
            (bytes_eq-Decides (get_or header i []) (title c)).0 s.1,
            λ k l q.
                let w : true ≡ false =
                sym ((bytes_eq-Decides (get_or header k []) (title c)).1 q) ∙ s.2 k l in cc,
          ),
        )

stands-has : (header : List (List ℕ)) (c : Column) (i : ℕ) → StandsAt header c i
    → HasColumn header c
stands-has header c i s =
    subst (λ (t : List ℕ). Contains header t) s.1 (Contains-get_or header i [] s.0)

column-is : (header : List (List ℕ)) (c : Column) (i : ℕ) → StandsAt header c i
    → column_at header c ≡ Ok i
column-is header c i s =
    elim (column-cases header c) [
      | inl h ↦ h.1 ∙ ap {B = Result ℕ TableFault} (λ (k : ℕ). Ok k) (only (cases_order h.0 i) h.2)
      | inr h ↦ absurd (h.1 (stands-has header c i s))
    ]
  where
    only : {j : ℕ} → (j ≡ i) ⊎ ((j < i) ⊎ (i < j)) → StandsAt header c j → j ≡ i
    only (inl e) t = e
    only {j} (inr (inl l)) t = absurd (s.2 j l t.1)
    only (inr (inr g)) t = absurd (t.2 i g s.1)

column-lacks : (header : List (List ℕ)) (c : Column) → (HasColumn header c → ⊥)
    → column_at header c ≡ Err (NoColumn c)
column-lacks header c n =
    elim (column-cases header c) [ inl h ↦ absurd (n (stands-has header c h.0 h.2)) | inr h ↦ h.0 ]

pub columns-cases : (header : List (List ℕ)) (needed : List Column)
    → ((places : List ℕ) × (columns_at header needed ≡ Ok places)
    × AllZip (StandsAt header) needed places) ⊎ ((c : Column)
    × (columns_at header needed ≡ Err (NoColumn c)) × IsFirstAbsent header needed c)
columns-cases header [] = inl ([], refl, tt)
columns-cases header (c ∷ cs) =
    elim (column-cases header c) [
      | inr h ↦
          inr (
            c,
            then-stops (column_at header c) (λ i. columns_at header cs >>= λ is. Ok (i ∷ is))
                (NoColumn c) h.0,
            ([], cs, refl, All-nil (HasColumn header), h.1),
          )
      | inl h ↦ elim (columns-cases header cs) [
        | inl k ↦
            inl (
              h.0 ∷ k.0,
              then-gives (column_at header c) (λ i. columns_at header cs >>= λ is. Ok (i ∷ is)) h.0
                  (Ok (h.0 ∷ k.0)) h.1
                  (then-gives (columns_at header cs) (λ is. Ok (h.0 ∷ is)) k.0
                  (Ok (h.0 ∷ k.0)) k.1 refl),
              (h.2, k.2),
            )
        | inr k ↦ inr (
          k.0,
          then-gives (column_at header c) (λ i. columns_at header cs >>= λ is. Ok (i ∷ is)) h.0
              (Err (NoColumn k.0)) h.1
              (then-stops (columns_at header cs) (λ is. Ok (h.0 ∷ is)) (NoColumn k.0) k.1),
          (
            c ∷ k.2.0,
            k.2.1,
            ap (λ (t : List Column). c ∷ t) k.2.2,
            All-cons (HasColumn header) c k.2.0 (stands-has header c h.0 h.2) k.2.3,
            k.2.4,
          ),
        )
      ]
    ]

pub columns-are : (header : List (List ℕ)) (needed : List Column) (places : List ℕ)
    → AllZip (StandsAt header) needed places → columns_at header needed ≡ Ok places
columns-are header [] [] h = refl
columns-are header [] (i ∷ is) h = absurd h
columns-are header (c ∷ cs) [] h = absurd h
columns-are header (c ∷ cs) (i ∷ is) h =
    then-gives (column_at header c) (λ k. columns_at header cs >>= λ ks. Ok (k ∷ ks)) i
    (Ok (i ∷ is)) (column-is header c i h.0)
    (then-gives (columns_at header cs) (λ ks. Ok (i ∷ ks)) is (Ok (i ∷ is))
    (columns-are header cs is h.1) refl)

lacks-behind : (header : List (List ℕ)) (before : List Column) (c : Column) (behind : List Column)
    → All (HasColumn header) before → (HasColumn header c → ⊥)
    → columns_at header (before ++ c ∷ behind) ≡ Err (NoColumn c)
lacks-behind header [] c behind a n =
    then-stops (column_at header c) (λ i. columns_at header behind >>= λ is. Ok (i ∷ is))
    (NoColumn c) (column-lacks header c n)
lacks-behind header (b ∷ bs) c behind a n =
    elim (column-cases header b) [
      | inl h ↦
          then-gives (column_at header b)
          (λ i. columns_at header (bs ++ c ∷ behind) >>= λ is. Ok (i ∷ is)) h.0
          (Err (NoColumn c)) h.1
          (then-stops (columns_at header (bs ++ c ∷ behind)) (λ is. Ok (h.0 ∷ is)) (NoColumn c)
          (lacks-behind header bs c behind (All-tail (HasColumn header) b bs a) n))
      | inr h ↦ absurd (h.1 (All-head (HasColumn header) b bs a))
    ]

pub columns-lack : (header : List (List ℕ)) (needed : List Column) (c : Column)
    → IsFirstAbsent header needed c → columns_at header needed ≡ Err (NoColumn c)
columns-lack header needed c h = rw h.2 (lacks-behind header h.0 c h.1 h.3 h.4)

empties : (text : List ℕ) → Decides (length text == 0) (text ≡ [])
empties [] = (λ h. refl, λ h. refl)
empties (c ∷ text) =
    (λ h. absurd (let e = (Decides-eqb (length (c ∷ text)) 0).0 h in omega arith), λ h. cc)

skips : (header : List (List ℕ)) (places : List ℕ) (raw : List (List ℕ))
    → Decides (is_skipped header (used_fields raw) places) (TellsNothing header places raw)
skips header places raw =
    Decides-or (pointwise bytes_eq (used_fields raw) header)
    (list_all (λ text. length text == 0) (cells_at (used_fields raw) places))
    (slice_eq-Decides bytes_eq-Decides (used_fields raw) header
    (pointwise bytes_eq (used_fields raw) header) refl)
    (Decides-by_and (λ text. length text == 0) (λ text. text ≡ [])
    (list_all (λ text. length text == 0))
    empties refl (λ _ _. refl) (cells_at (used_fields raw) places))

tells : (header : List (List ℕ)) (places : List ℕ) (raw : List (List ℕ))
    → (TellsNothing header places raw → ⊥) → is_skipped header (used_fields raw) places ≡ false
tells header places raw n =
    false_from_ne_true (is_skipped header (used_fields raw) places)
    (λ e. n ((skips header places raw).0 e))

-- the kinds of records under a header
pub data Kinds {R : Type 0} (row_of : List (List ℕ) → Option R) (header : List (List ℕ))
    (places : List ℕ) (raw : List (List ℕ)) : Type 0 where
  not_csv : IsNotCsv header raw → Kinds row_of header places raw
  skipped : IsSkipped header places raw → Kinds row_of header places raw
  bad : IsBadRow row_of header places raw → Kinds row_of header places raw
  good : (row : R) → IsRow row_of header places raw row → Kinds row_of header places raw

pub kinds : {R : Type 0} (row_of : List (List ℕ) → Option R) (header : List (List ℕ))
    (places : List ℕ) (raw : List (List ℕ)) → Kinds row_of header places raw
kinds {R} row_of header places raw =
    elim (cases_Bool (length raw == length header)) [
      | inr e ↦
          not_csv
          (λ q. let t : (length raw == length header)
          ≡ true =
          (Decides-eqb (length raw) (length header)).1 q in let w : true ≡ false = sym t ∙ e in cc)
      | inl e ↦ elim (cases_Bool (is_skipped header (used_fields raw) places)) [
        | inl t ↦
            skipped ((Decides-eqb (length raw) (length header)).0 e, (skips header places raw).0 t)
        | inr t ↦
            by_row ((Decides-eqb (length raw) (length header)).0 e)
            (λ h. let s : is_skipped header (used_fields raw) places
            ≡ true =
            (skips header places raw).1 h in let w : true ≡ false = sym s ∙ t in cc)
            (row_of (cells_at (used_fields raw) places)) refl
      ]
    ]
  where
    by_row : length raw ≡ length header → (TellsNothing header places raw → ⊥) → (o : Option R)
        → row_of (cells_at (used_fields raw) places) ≡ o → Kinds row_of header places raw
    by_row l n None e = bad (l, n, e)
    by_row l n (Some row) e = good row (l, n, e)

module _ {A R : Type 0} (row_of : List (List ℕ) → Option R) (add : A → R → Result A TableFault)
    (header : List (List ℕ)) (places : List ℕ) (n : ℕ) (raw : List (List ℕ)) (so_far : A) where
  pub adds_not_csv : IsNotCsv header raw
      → after_record row_of add header places n raw so_far ≡ Err (NotCsv n)
  adds_not_csv h =
      then-stops (row_cells header places n raw) (joined row_of add n so_far) (NotCsv n)
      (row_cells-unequal header places n raw h)

  pub adds_nothing : IsSkipped header places raw
      → after_record row_of add header places n raw so_far ≡ Ok so_far
  adds_nothing h =
      then-gives (row_cells header places n raw) (joined row_of add n so_far) None (Ok so_far)
      (row_cells-skipped header places n raw h.0 ((skips header places raw).1 h.1)) refl

  pub adds_bad_row : IsBadRow row_of header places raw
      → after_record row_of add header places n raw so_far ≡ Err (BadRow n)
  adds_bad_row h =
      then-gives (row_cells header places n raw) (joined row_of add n so_far)
      (Some (cells_at (used_fields raw) places)) (Err (BadRow n))
      (row_cells-used header places n raw h.0 (tells header places raw h.1)) (rw h.2)

  pub adds_row : (row : R) → IsRow row_of header places raw row
      → after_record row_of add header places n raw so_far ≡ add so_far row
  adds_row row h =
      then-gives (row_cells header places n raw) (joined row_of add n so_far)
      (Some (cells_at (used_fields raw) places)) (add so_far row)
      (row_cells-used header places n raw h.0 (tells header places raw h.1)) (rw h.2)

-- the sum of rows, in order
abbrev pub added : {A R : Type 0} → (A → R → Result A TableFault) → A → List R → Result A TableFault
added add so_far [] = Ok so_far
added add so_far (row ∷ rows) = add so_far row >>= λ more. added add more rows

-- why record n stops the reading
abbrev pub Stops : {A R : Type 0} → (List (List ℕ) → Option R) → (A → R → Result A TableFault)
    → List (List ℕ) → List ℕ → ℕ → List (List ℕ) → A → TableFault → Type 0
Stops {A} {R} row_of add header places n raw so_far f =
    ((f ≡ NotCsv n) × IsNotCsv header raw)
    ⊎
    (((f ≡ BadRow n) × IsBadRow row_of header places raw)
    ⊎ ((row : R) × IsRow row_of header places raw row × (add so_far row ≡ Err f)))

-- all records from n on are read
pub record IsRead {A R : Type 0} (row_of : List (List ℕ) → Option R)
    (add : A → R → Result A TableFault) (header : List (List ℕ)) (places : List ℕ) (n : ℕ)
    (records : List (List (List ℕ))) (so_far : A) : Type 0 where
  pub rows : List R
  pub total : A
  pub are : AreRows row_of header places records rows
  pub adds : added add so_far rows ≡ Ok total
  pub answer : after_records row_of add header places n records so_far ≡ Ok total

-- a record from n on stops the reading
pub record IsStopped {A R : Type 0} (row_of : List (List ℕ) → Option R)
    (add : A → R → Result A TableFault) (header : List (List ℕ)) (places : List ℕ) (n : ℕ)
    (records : List (List (List ℕ))) (so_far : A) : Type 0 where
  pub before : List (List (List ℕ))
  pub raw : List (List ℕ)
  pub behind : List (List (List ℕ))
  pub rows : List R
  pub total : A
  pub fault : TableFault
  pub splits : records ≡ before ++ raw ∷ behind
  pub are : AreRows row_of header places before rows
  pub adds : added add so_far rows ≡ Ok total
  pub stops : Stops row_of add header places (n + length before) raw total fault
  pub answer : after_records row_of add header places n records so_far ≡ Err fault

module _ {A R : Type 0} (row_of : List (List ℕ) → Option R) (add : A → R → Result A TableFault)
    (header : List (List ℕ)) (places : List ℕ) where
  records-nil : (n : ℕ) (so_far : A)
      → after_records row_of add header places n [] so_far ≡ Ok so_far
  unfolding after_records
  records-nil n so_far = refl

  records-cons : (n : ℕ) (raw : List (List ℕ)) (behind : List (List (List ℕ))) (so_far : A)
      → after_records row_of add header places n (raw ∷ behind) so_far
      ≡ (after_record row_of add header places n raw so_far
      >>= after_records row_of add header places (n + 1) behind)
  unfolding after_records
  records-cons n raw behind so_far = refl

  records-more : (n : ℕ) (raw : List (List ℕ)) (behind : List (List (List ℕ))) (so_far more : A)
      (r : Result A TableFault) → after_record row_of add header places n raw so_far ≡ Ok more
      → after_records row_of add header places (n + 1) behind more ≡ r
      → after_records row_of add header places n (raw ∷ behind) so_far ≡ r
  records-more n raw behind so_far more r e h =
      records-cons n raw behind so_far
      ∙ then-gives (after_record row_of add header places n raw so_far)
      (after_records row_of add header places (n + 1) behind) more r e h

  records-stop : (n : ℕ) (raw : List (List ℕ)) (behind : List (List (List ℕ))) (so_far : A)
      (f : TableFault) → after_record row_of add header places n raw so_far ≡ Err f
      → after_records row_of add header places n (raw ∷ behind) so_far ≡ Err f
  records-stop n raw behind so_far f e =
      records-cons n raw behind so_far
      ∙ then-stops (after_record row_of add header places n raw so_far)
      (after_records row_of add header places (n + 1) behind) f e

  pub records-are : (records : List (List (List ℕ))) (rows : List R) (n : ℕ) (so_far : A)
      → AreRows row_of header places records rows
      → after_records row_of add header places n records so_far ≡ added add so_far rows
  records-are _ _ n so_far no_record = records-nil n so_far
  records-are _ _ n so_far (skipped_first {raw} {behind} {rows} s r) =
      records-more n raw behind so_far so_far (added add so_far rows)
      (adds_nothing row_of add header places n raw so_far s)
      (records-are behind rows (n + 1) so_far r)
  records-are _ _ n so_far (row_first {raw} {behind} {row} {rows} s r) =
      by_row (λ more. records-are behind rows (n + 1) more r) (add so_far row) refl
    where
      by_row :
          ((more : A) → after_records row_of add header places (n + 1) behind more
          ≡ added add more rows) → (o : Result A TableFault) → add so_far row ≡ o
          → after_records row_of add header places n (raw ∷ behind) so_far
          ≡ added add so_far (row ∷ rows)
      by_row rest (Ok more) e =
          records-more n raw behind so_far more (added add so_far (row ∷ rows))
          (adds_row row_of add header places n raw so_far row s ∙ e)
          (rest more
          ∙ sym (then-gives (add so_far row) (λ t. added add t rows) more
          (added add more rows) e refl))
      by_row rest (Err f) e =
          records-stop n raw behind so_far f
          (adds_row row_of add header places n raw so_far row s ∙ e)
          ∙ sym (then-stops (add so_far row) (λ t. added add t rows) f e)

  stop-adds : (n : ℕ) (raw : List (List ℕ)) (so_far : A) (f : TableFault)
      → Stops row_of add header places n raw so_far f
      → after_record row_of add header places n raw so_far ≡ Err f
  stop-adds n raw so_far f (inl h) = rw h.0 (adds_not_csv row_of add header places n raw so_far h.1)
  stop-adds n raw so_far f (inr (inl h)) =
      rw h.0 (adds_bad_row row_of add header places n raw so_far h.1)
  stop-adds n raw so_far f (inr (inr h)) =
      adds_row row_of add header places n raw so_far h.0 h.1 ∙ h.2

  pub records-stopped : (before : List (List (List ℕ))) (rows : List R) (n : ℕ) (so_far total : A)
      (raw : List (List ℕ)) (behind : List (List (List ℕ))) (f : TableFault)
      → AreRows row_of header places before rows → added add so_far rows ≡ Ok total
      → Stops row_of add header places (n + length before) raw total f
      → after_records row_of add header places n (before ++ raw ∷ behind) so_far ≡ Err f
  records-stopped _ _ n so_far total raw behind f no_record a s =
      let same : so_far ≡ total = cc in
      let zero_more : n + 0 ≡ n = omega arith in
      records-stop n raw behind so_far f (stop-adds n raw so_far f (rw (← zero_more, same) s))
  records-stopped _ _ n so_far total raw behind f
      (skipped_first {raw = first} {behind = before} {rows} k r) a s =
      let moved : (n + 1) + length before ≡ n + length (first ∷ before) = omega arith in
      records-more n first (before ++ raw ∷ behind) so_far so_far (Err f)
      (adds_nothing row_of add header places n first so_far k)
      (records-stopped before rows (n + 1) so_far total raw behind f r a (rw moved s))
  records-stopped _ _ n so_far total raw behind f
      (row_first {raw = first} {behind = before} {row} {rows} k r) a s =
      by_row
      (λ more e. let moved : (n + 1) + length before
      ≡ n + length (first ∷ before) =
      omega arith in
      records-stopped before rows (n + 1) more total raw behind f r e (rw moved s))
      (add so_far row) refl
    where
      by_row :
          ((more : A) → added add more rows ≡ Ok total
          → after_records row_of add header places (n + 1) (before ++ raw ∷ behind) more ≡ Err f)
          → (o : Result A TableFault) → add so_far row ≡ o
          → after_records row_of add header places n (first ∷ before ++ raw ∷ behind) so_far ≡ Err f
      by_row rest (Ok more) e =
          records-more n first (before ++ raw ∷ behind) so_far more (Err f)
          (adds_row row_of add header places n first so_far row k ∙ e)
          (rest more
          (sym (then-gives (add so_far row) (λ t. added add t rows) more
          (added add more rows) e refl) ∙ a))
      by_row rest (Err g) e =
          absurd
          (let w : Err g ≡ Ok total = sym (then-stops (add so_far row) (λ t. added add t rows) g e)
          ∙ a in cc)

  pub records-run : (records : List (List (List ℕ))) (n : ℕ) (so_far : A)
      → IsRead row_of add header places n records so_far
      ⊎ IsStopped row_of add header places n records so_far
  records-run [] n so_far =
      inl
      (record {
        rows =
            [];
        total = so_far;
        are = no_record;
        adds = refl;
        answer = records-nil n so_far;
      })
  records-run (raw ∷ behind) n so_far =
      by_kind (λ more. records-run behind (n + 1) more) (kinds row_of header places raw)
    where
      stopped : (f : TableFault) → Stops row_of add header places n raw so_far f
          → IsStopped row_of add header places n (raw ∷ behind) so_far
      stopped f s =
          let zero_more : n + 0 ≡ n = omega arith in
          record {
            before = [];
            raw = raw;
            behind = behind;
            rows = [];
            total = so_far;
            fault = f;
            splits = refl;
            are = no_record;
            adds = refl;
            stops = rw zero_more s;
            answer = records-stop n raw behind so_far f (stop-adds n raw so_far f s);
          }

      read_skipped : IsSkipped header places raw
          → IsRead row_of add header places (n + 1) behind so_far
          → IsRead row_of add header places n (raw ∷ behind) so_far
      read_skipped s h =
          record {
            rows = h.rows;
            total = h.total;
            are = skipped_first s h.are;
            adds = h.adds;
            answer =
                records-more n raw behind so_far so_far (Ok h.total)
                (adds_nothing row_of add header places n raw so_far s) h.answer;
          }

      stopped_skipped : IsSkipped header places raw
          → IsStopped row_of add header places (n + 1) behind so_far
          → IsStopped row_of add header places n (raw ∷ behind) so_far
      stopped_skipped s h =
          let moved : n + length (raw ∷ h.before) ≡ (n + 1) + length h.before = omega arith in
          record {
            before = raw ∷ h.before;
            raw = h.raw;
            behind = h.behind;
            rows = h.rows;
            total = h.total;
            fault = h.fault;
            splits = ap (λ (t : List (List (List ℕ))). raw ∷ t) h.splits;
            are = skipped_first s h.are;
            adds = h.adds;
            stops = rw moved h.stops;
            answer =
                records-more n raw behind so_far so_far (Err h.fault)
                (adds_nothing row_of add header places n raw so_far s) h.answer;
          }

      read_row : (row : R) (more : A) → IsRow row_of header places raw row → add so_far row
          ≡ Ok more → IsRead row_of add header places (n + 1) behind more
          → IsRead row_of add header places n (raw ∷ behind) so_far
      read_row row more s e h =
          record {
            rows = row ∷ h.rows;
            total = h.total;
            are = row_first s h.are;
            adds = then-gives (add so_far row) (λ t. added add t h.rows) more (Ok h.total) e h.adds;
            answer =
                records-more n raw behind so_far more (Ok h.total)
                (adds_row row_of add header places n raw so_far row s ∙ e) h.answer;
          }

      stopped_row : (row : R) (more : A) → IsRow row_of header places raw row → add so_far row
          ≡ Ok more → IsStopped row_of add header places (n + 1) behind more
          → IsStopped row_of add header places n (raw ∷ behind) so_far
      stopped_row row more s e h =
          let moved : n + length (raw ∷ h.before) ≡ (n + 1) + length h.before = omega arith in
          record {
            before = raw ∷ h.before;
            raw = h.raw;
            behind = h.behind;
            rows = row ∷ h.rows;
            total = h.total;
            fault = h.fault;
            splits = ap (λ (t : List (List (List ℕ))). raw ∷ t) h.splits;
            are = row_first s h.are;
            adds = then-gives (add so_far row) (λ t. added add t h.rows) more (Ok h.total) e h.adds;
            stops = rw moved h.stops;
            answer =
                records-more n raw behind so_far more (Err h.fault)
                (adds_row row_of add header places n raw so_far row s ∙ e) h.answer;
          }

      by_row :
          ((more : A) → IsRead row_of add header places (n + 1) behind more
          ⊎ IsStopped row_of add header places (n + 1) behind more) → (row : R)
          → IsRow row_of header places raw row → (o : Result A TableFault) → add so_far row ≡ o
          → IsRead row_of add header places n (raw ∷ behind) so_far
          ⊎ IsStopped row_of add header places n (raw ∷ behind) so_far
      by_row rest row s (Ok more) e =
          elim (rest more)
          [ inl h ↦ inl (read_row row more s e h) | inr h ↦ inr (stopped_row row more s e h) ]
      by_row rest row s (Err f) e = inr (stopped f (inr (inr (row, s, e))))

      by_kind :
          ((more : A) → IsRead row_of add header places (n + 1) behind more
          ⊎ IsStopped row_of add header places (n + 1) behind more) → Kinds row_of header places raw
          → IsRead row_of add header places n (raw ∷ behind) so_far
          ⊎ IsStopped row_of add header places n (raw ∷ behind) so_far
      by_kind rest (not_csv h) = inr (stopped (NotCsv n) (inl (refl, h)))
      by_kind rest (bad h) = inr (stopped (BadRow n) (inr (inl (refl, h))))
      by_kind rest (skipped s) =
          elim (rest so_far) [ inl h ↦ inl (read_skipped s h) | inr h ↦ inr (stopped_skipped s h) ]
      by_kind rest (good row s) = by_row rest row s (add so_far row) refl

-- a file that is read whole
pub record IsWhole {A R : Type 0} (needed : List Column) (row_of : List (List ℕ) → Option R)
    (add : A → R → Result A TableFault) (none : A) (file : List (List (List ℕ))) : Type 0 where
  pub rows : List R
  pub total : A
  pub has : HasRows needed row_of file rows
  pub adds : added add none rows ≡ Ok total
  pub answer : after_file needed row_of add none file ≡ Ok total

-- a file whose header lacks a column
pub record IsLacking {A R : Type 0} (needed : List Column) (row_of : List (List ℕ) → Option R)
    (add : A → R → Result A TableFault) (none : A) (file : List (List (List ℕ))) : Type 0 where
  pub column : Column
  pub absent : IsFirstAbsent (header_of file) needed column
  pub answer : after_file needed row_of add none file ≡ Err (NoColumn column)

-- a file with a record that stops the reading
pub record IsCutShort {A R : Type 0} (needed : List Column) (row_of : List (List ℕ) → Option R)
    (add : A → R → Result A TableFault) (none : A) (file : List (List (List ℕ))) : Type 0 where
  pub before : List (List (List ℕ))
  pub raw : List (List ℕ)
  pub behind : List (List (List ℕ))
  pub rows : List R
  pub total : A
  pub fault : TableFault
  pub splits : file ≡ before ++ raw ∷ behind
  pub has : HasRows needed row_of before rows
  pub adds : added add none rows ≡ Ok total
  pub stops : Stops row_of add (header_of before) has.places (length before + 1) raw total fault
  pub answer : after_file needed row_of add none file ≡ Err fault

module _ {A R : Type 0} (needed : List Column) (row_of : List (List ℕ) → Option R)
    (add : A → R → Result A TableFault) (none : A) where
  pub file-has : (file : List (List (List ℕ))) (rows : List R) → HasRows needed row_of file rows
      → after_file needed row_of add none file ≡ added add none rows
  file-has file rows h =
      then-gives (columns_at (header_of file) needed)
      (λ places. after_records row_of add (header_of file) places 2
      (rows_of file) none) h.places (added add none rows)
      (columns-are (header_of file) needed h.places h.columns)
      (records-are row_of add (header_of file) h.places (rows_of file) rows 2 none h.behind)

  pub file-lacks : (file : List (List (List ℕ))) (c : Column)
      → IsFirstAbsent (header_of file) needed c
      → after_file needed row_of add none file ≡ Err (NoColumn c)
  file-lacks file c h =
      then-stops (columns_at (header_of file) needed)
      (λ places. after_records row_of add (header_of file) places 2 (rows_of file) none)
      (NoColumn c) (columns-lack (header_of file) needed c h)

  pub file-stops : ((p : List ℕ) → columns_at [] needed ≡ Ok p → ⊥)
      → (before : List (List (List ℕ))) (raw : List (List ℕ)) (behind : List (List (List ℕ)))
      (rows : List R) (h : HasRows needed row_of before rows) (total : A) (f : TableFault)
      → added add none rows ≡ Ok total
      → Stops row_of add (header_of before) h.places (length before + 1) raw total f
      → after_file needed row_of add none (before ++ raw ∷ behind) ≡ Err f
  file-stops absent [] raw behind rows h total f a s =
      absurd (absent h.places (columns-are [] needed h.places h.columns))
  file-stops absent (first ∷ before) raw behind rows h total f a s =
      let moved : 2 + length before ≡ length (first ∷ before) + 1 = omega arith in
      then-gives (columns_at (used_fields first) needed)
      (λ places. after_records row_of add (used_fields first) places 2
      (before ++ raw ∷ behind) none) h.places (Err f)
      (columns-are (used_fields first) needed h.places h.columns)
      (records-stopped row_of add
      (used_fields first) h.places before rows 2 none total raw behind f h.behind a
      (rw moved s))

  pub file-run : ((p : List ℕ) → columns_at [] needed ≡ Ok p → ⊥) → (file : List (List (List ℕ)))
      → IsWhole needed row_of add none file ⊎
      (IsLacking needed row_of add none file ⊎ IsCutShort needed row_of add none file)
  file-run absent [] =
      elim (columns-cases [] needed) [
        | inl h ↦ absurd (absent h.0 h.1)
        | inr h ↦ inr (inl (record { column = h.0; absent = h.2; answer = file-lacks [] h.0 h.2 }))
      ]
  file-run absent (first ∷ records) =
      elim (columns-cases (used_fields first) needed) [
        | inl h ↦
            by_records h.0 h.1 h.2
            (records-run row_of add (used_fields first) h.0 records 2 none)
        | inr h ↦
            inr
            (inl
            (record {
              column = h.0;
              absent = h.2;
              answer = file-lacks
                  (first ∷ records) h.0 h.2;
            }))
      ]
    where
      whole : (places : List ℕ) → columns_at (used_fields first) needed ≡ Ok places
          → AllZip (StandsAt (used_fields first)) needed places
          → IsRead row_of add (used_fields first) places 2 records none
          → IsWhole needed row_of add none (first ∷ records)
      whole places e stand h =
          record {
            rows = h.rows;
            total = h.total;
            has = record { places = places; columns = stand; behind = h.are };
            adds = h.adds;
            answer =
                then-gives (columns_at (used_fields first) needed)
                (λ p. after_records row_of add (used_fields first) p 2 records none) places
                (Ok h.total) e h.answer;
          }

      cut_short : (places : List ℕ) → columns_at (used_fields first) needed ≡ Ok places
          → AllZip (StandsAt (used_fields first)) needed places
          → IsStopped row_of add (used_fields first) places 2 records none
          → IsCutShort needed row_of add none (first ∷ records)
      cut_short places e stand h =
          let moved : length (first ∷ h.before) + 1 ≡ 2 + length h.before = omega arith in
          record {
            before = first ∷ h.before;
            raw = h.raw;
            behind = h.behind;
            rows = h.rows;
            total = h.total;
            fault = h.fault;
            splits = ap (λ (t : List (List (List ℕ))). first ∷ t) h.splits;
            has = record { places = places; columns = stand; behind = h.are };
            adds = h.adds;
            stops = rw moved h.stops;
            answer =
                then-gives (columns_at (used_fields first) needed)
                (λ p. after_records row_of add (used_fields first) p 2 records none) places
                (Err h.fault) e h.answer;
          }

      by_records : (places : List ℕ) → columns_at (used_fields first) needed ≡ Ok places
          → AllZip (StandsAt (used_fields first)) needed places
          → IsRead row_of add (used_fields first) places 2 records none
          ⊎ IsStopped row_of add (used_fields first) places 2 records none
          → IsWhole needed row_of add none (first ∷ records)
          ⊎
          (IsLacking needed row_of add none (first ∷ records)
          ⊎ IsCutShort needed row_of add none (first ∷ records))
      by_records places e stand (inl h) = inl (whole places e stand h)
      by_records places e stand (inr h) = inr (inr (cut_short places e stand h))
