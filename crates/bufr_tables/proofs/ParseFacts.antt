-- Reading a file step by step; `whole` is its table or its first fault.
use Rattle.std.proofs.Common.{◌≡◌, ◌∙◌, ℕ, ◌+◌, Bool, true, false, List, [], ◌∷◌, Option, Result}
use Rattle.std.proofs.Common.{Ok, Err, refl, ap, map, Bor}
use Rattle.std.specs.Prelude.{MatchBool, IsErrAnd}
use Rattle.bufr_tables.specs.declared.table_faults.Column.{Column}
use Rattle.bufr_tables.specs.declared.table_faults.TableFault.{TableFault}
use Rattle.bufr_base.specs.declared.failure.Failure.{Failure}
use Rattle.bufr_base.specs.declared.failure.Failure.TheVariants.{Fault, OutOfMemory}
use Rattle.bufr_base.specs.Answers.{◌>>=◌, Fails, Gives, result_map}
use Rattle.bufr_tables.specs.Fields.{used_fields}
use Rattle.bufr_tables.specs.TableFiles.{columns_at, after_record, after_records, after_file}
use Rattle.bufr_tables.specs.TableFiles.{TakesHeader}
use Rattle.bufr_tables.proofs.ColumnFacts.{file_fault, file_rows, records_more, records_stop}
use Rattle.bufr_tables.proofs.ColumnFacts.{records_end}

pub fails-by : {X Y : Type 0} (e : Failure TableFault) (r : Result X TableFault)
    (s : Result Y TableFault) → ((f : TableFault) → r ≡ Err f → s ≡ Err f) → Fails e r → Fails e s
fails-by OutOfMemory r s f h = tt
fails-by (Fault x) r s f h = f x h

pub fails-through : {X Y : Type 0} (view : X → Y) (r : Result X (Failure TableFault))
    (e : Failure TableFault) (whole : Result Y TableFault) → IsErrAnd r (λ y. y ≡ e) → Fails e whole
    → Gives view r whole
fails-through view (Ok x) e whole q h = absurd q
fails-through view (Err y) e whole q h = rw q h

pub then-fails : {X Y : Type 0} (e : Failure TableFault) (r : Result X TableFault)
    (f : X → Result Y TableFault) → Fails e r → Fails e (r >>= f)
then-fails e r f h = fails-by e r (r >>= f) (λ x k. rw k) h

pub map-fails : {X Y : Type 0} (e : Failure TableFault) (r : Result X TableFault) (f : X → Y)
    → Fails e r → Fails e (result_map f r)
map-fails e r f h = fails-by e r (result_map f r) (λ x k. rw k) h

pub then-maps : {X Y : Type 0} (r : Result X TableFault) (f : X → Y)
    → (r >>= λ x. Ok (f x)) ≡ result_map f r
then-maps (Ok x) f = refl
then-maps (Err e) f = refl

pub then-gives : {X Y : Type 0} (r : Result X TableFault) (f : X → Result Y TableFault) (x : X)
    (y : Result Y TableFault) → r ≡ Ok x → f x ≡ y → (r >>= f) ≡ y
then-gives r f x y e g = rw e g

module _ {A R : Type 0} (needed : List Column) (row_of : List (List ℕ) → Option R)
    (add : A → R → Result A TableFault) (none : A) where
  pub start_fails : (file all left : List (List (List ℕ))) (raw : List (List ℕ))
      (names lent : List (Bor (List ℕ))) (e : Failure TableFault) → file ≡ all
      → TakesHeader file raw left → map (λ s. s.now) names ≡ used_fields raw → lent ≡ names
      → Fails e (columns_at (map (λ s. s.now) lent) needed)
      → Fails e (after_file needed row_of add none all)
  start_fails file all left raw names lent e a t n l h =
      let eq : map (λ s. s.now) lent ≡ used_fields raw =
      ap (map (λ (s : Bor (List ℕ)). s.now)) l ∙ n in
      rw (← a)
      (fails-by e (columns_at (map (λ s. s.now) lent) needed)
      (after_file needed row_of add none file)
      (λ f g. file_fault needed row_of add none file left raw f t (rw eq at g)) h)

  pub starts : (file all left : List (List (List ℕ))) (raw : List (List ℕ))
      (names lent again : List (Bor (List ℕ))) (places lent_places : List ℕ)
      → ((p : List ℕ) → columns_at [] needed ≡ Ok p → ⊥) → file ≡ all → TakesHeader file raw left
      → map (λ s. s.now) names ≡ used_fields raw → lent ≡ names → again ≡ names
      → columns_at (map (λ s. s.now) lent) needed ≡ Ok places → lent_places ≡ places
      → after_file needed row_of add none all
      ≡ after_records row_of add (map (λ s. s.now) again) lent_places 2 left none
  starts file all left raw names lent again places lent_places absent a t n l m h p =
      let eq : map (λ s. s.now) lent ≡ used_fields raw =
      ap (map (λ (s : Bor (List ℕ)). s.now)) l ∙ n in
      let eq2 : map (λ s. s.now) again ≡ used_fields raw =
      ap (map (λ (s : Bor (List ℕ)). s.now)) m ∙ n in
      rw (← a, eq2, p)
      (file_rows needed row_of add none file left raw places absent t (rw eq at h))

module _ {A R : Type 0} (row_of : List (List ℕ) → Option R) (add : A → R → Result A TableFault)
    (whole : Result A TableFault) (names : List (List ℕ)) (places : List ℕ) where
  pub ends : (n : ℕ) (file left : List (List (List ℕ))) (raw : List (List ℕ)) (so_far : A)
      (found : Bool) → whole ≡ after_records row_of add names places n file so_far
      → MatchBool found (file ≡ raw ∷ left) (file ≡ []) → found ≡ false → whole ≡ Ok so_far
  ends n file left raw so_far found w m f =
      let g : file ≡ [] = rw f at m in w ∙ rw g (records_end row_of add names places n so_far)

  pub goes_on : (n : ℕ) (file left : List (List (List ℕ))) (raw : List (List ℕ)) (so_far new : A)
      (found : Bool) → whole ≡ after_records row_of add names places n file so_far
      → MatchBool found (file ≡ raw ∷ left) (file ≡ []) → found ≡ true
      → after_record row_of add names places n raw so_far ≡ Ok new
      → whole ≡ after_records row_of add names places (n + 1) left new
  goes_on n file left raw so_far new found w m f j =
      let g : file ≡ raw ∷ left =
      rw f at m in w ∙ rw g (records_more row_of add names places n raw left so_far new j)

  pub stops : (n : ℕ) (file left : List (List (List ℕ))) (raw : List (List ℕ)) (so_far : A)
      (found : Bool) (e : Failure TableFault)
      → whole ≡ after_records row_of add names places n file so_far
      → MatchBool found (file ≡ raw ∷ left) (file ≡ []) → found ≡ true
      → Fails e (after_record row_of add names places n raw so_far) → Fails e whole
  stops n file left raw so_far found e w m f h =
      let g : file ≡ raw ∷ left = rw f at m in
      fails-by e (after_record row_of add names places n raw so_far) whole
      (λ x k. w ∙ rw g (records_stop row_of add names places n raw left so_far x k)) h
