-- The places of subsets, one by one.
use Rattle.std.proofs.Common.{◌≡◌, ℕ, zero, suc, ◌+◌, ◌<◌, ◌≤◌, Bool, true, false, List, [], ◌∷◌}
use Rattle.std.proofs.Common.{length, map, take, drop, get_or, Some, None, Result, Ok, Err, refl}
use Rattle.std.proofs.Common.{sym, ap, ◌∙◌, arith}
use Rattle.std.specs.Prelude.{◌&&◌, slice_get}
use Rattle.std.specs.List.{list_all}
use Rattle.std.proofs.lemmas.List.{drop-drop, drop_all, take_all}
use Rattle.std.proofs.lemmas.List.Folds.{list_all-map, list_all_at, list_all_more}
use Rattle.std.proofs.lemmas.Option.{slice_get_within, get_or_from_slice_get}
use Rattle.bufr_fields.specs.declared.field.Raw.{Raw}
use Rattle.bufr_fields.specs.declared.field.Field.{Field}
use Rattle.bufr_fields.specs.declared.field.Subset.{Subset}
use Rattle.bufr_fields.specs.declared.fault.MisfitFault.{MisfitFault}
use Rattle.bufr_fields.specs.declared.fault.MisfitFault.TheVariants as misfits
use Rattle.bufr_data.specs.Compressed.{Column}
use Rattle.bufr_data.specs.Compressed.Best.{can_be_column, begins_like, first_raw, is_empty, column_or}
use Rattle.bufr_data.specs.Compressed.Best.{columns_of}
use Rattle.bufr_data.specs.Compressed.Places.{rows_from, values_from, columns_here}
use Rattle.bufr_data.proofs.ListFacts.{left_is}
use Rattle.bufr_data.proofs.CompressedFacts.Packed.{taken, none_taken, column_passes, column_behind}

pub next_is : {X : Type 0} → (xs : List X) (k : ℕ) (x : X) → slice_get xs k ≡ Some x
    → drop k xs ≡ x ∷ drop (k + 1) xs
next_is xs k x e =
    left_is xs k x (slice_get_within xs k x e) (sym (get_or_from_slice_get xs k x x e))

pub none_next : {X : Type 0} → (xs : List X) (k : ℕ) → slice_get xs k ≡ None → drop k xs ≡ []
none_next [] zero e = refl
none_next [] (suc k) e = refl
none_next (x ∷ xs) zero e = absurd cc
none_next (x ∷ xs) (suc k) e = none_next xs k e

pub all_false : {X : Type 0} → (p : X → Bool) (xs : List X) (k : ℕ) (x : X) → k < length xs
    → x ≡ get_or xs k x → p x ≡ false → list_all p xs ≡ false
all_false p xs k x less is e = list_all_at p xs k x less (sym (ap p is) ∙ e)

pub all_step : {X : Type 0} → (p : X → Bool) (xs : List X) (k : ℕ) (x : X) → k < length xs
    → x ≡ get_or xs k x → list_all p (take k xs) ≡ true → p x ≡ true
    → list_all p (take (k + 1) xs) ≡ true
all_step p xs k x less is before here =
    list_all_more p xs k x less ∙ rw (before, sym (ap p is) ∙ here) refl

pub all_end : {X : Type 0} → (p : X → Bool) (xs : List X) (k : ℕ) → length xs ≤ k
    → list_all p (take k xs) ≡ true → list_all p xs ≡ true
all_end p xs k done e = ap (list_all p) (sym (take_all k xs done)) ∙ e

pub rows_all : (p : List Field → Bool) (place : ℕ) (subsets : List Subset)
    → list_all p (rows_from place subsets)
    ≡ list_all (λ (s : Subset). p (drop place s.fields)) subsets
rows_all p place subsets = list_all-map p (λ (s : Subset). drop place s.fields) subsets

pub values_all : (p : Raw → Bool) (place : ℕ) (subsets : List Subset)
    → list_all p (map first_raw (rows_from place subsets))
    ≡ list_all (λ (s : Subset). p (first_raw (drop place s.fields))) subsets
values_all p place subsets =
    list_all-map p first_raw (rows_from place subsets)
    ∙ rows_all (λ row. p (first_raw row)) place subsets

pub rows_next : (place : ℕ) (subsets : List Subset)
    → map (drop 1) (rows_from place subsets) ≡ rows_from (place + 1) subsets
rows_next place [] = refl
rows_next place (s ∷ subsets) =
    λ t. drop-drop 1 place s.fields t ∷ rows_next place subsets t

column_fails : (i : ℕ) (b : Bool) (c : Column) (others : Result (List Column) MisfitFault)
    → b ≡ false → column_or i b c others ≡ Err (misfits.NotCompressible i)
column_fails i true c others e = absurd cc
column_fails i false c others e = refl

pub place_fails : (place : ℕ) (f : Field) (fs : List Field) (others : List Subset)
    → (list_all (begins_like f) (rows_from place others)
    && can_be_column f.spec (values_from f (rows_from place others)))
    ≡ false
    → columns_of (place + 1) (f ∷ fs) (rows_from place others)
    ≡ Err (misfits.NotCompressible (place + 1))
unfolding columns_of
place_fails place f fs others e = column_fails (place + 1) _ _ _ e

pub next_fails : (place : ℕ) (f : Field) (fs : List Field) (others : List Subset)
    (fault : MisfitFault)
    → (list_all (begins_like f) (rows_from place others)
    && can_be_column f.spec (values_from f (rows_from place others)))
    ≡ true → columns_of (place + 1 + 1) fs (rows_from (place + 1) others) ≡ Err fault
    → columns_of (place + 1) (f ∷ fs) (rows_from place others) ≡ Err fault
unfolding columns_of
next_fails place f fs others fault e fails =
    column_behind (place + 1) _ _ _ fault e (ap (columns_of (place + 1 + 1) fs)
    (rows_next place others) ∙ fails)

pub next_passes : (place : ℕ) (f : Field) (fs : List Field) (others : List Subset)
    (cs : List Column)
    → (list_all (begins_like f) (rows_from place others)
    && can_be_column f.spec (values_from f (rows_from place others)))
    ≡ true → columns_of (place + 1 + 1) fs (rows_from (place + 1) others) ≡ Ok cs
    → (all : List Column) × (columns_of (place + 1) (f ∷ fs) (rows_from place others) ≡ Ok all)
unfolding columns_of
next_passes place f fs others cs e passes = (
  _,
  column_passes (place + 1) _ _ _ cs e
      (ap (columns_of (place + 1 + 1) fs) (rows_next place others) ∙ passes),
)

pub end_passes : (i : ℕ) (rows : List (List Field)) → list_all is_empty rows ≡ true
    → columns_of i [] rows ≡ Ok []
unfolding columns_of
end_passes i rows e = rw e refl

pub end_fails : (i : ℕ) (rows : List (List Field)) → list_all is_empty rows ≡ false
    → columns_of i [] rows ≡ Err (misfits.NotCompressible i)
unfolding columns_of
end_fails i rows e = rw e refl

pub are_here : (i : ℕ) (fs : List Field) (rows : List (List Field)) (cs : List Column)
    → columns_of i fs rows ≡ Ok cs → cs ≡ columns_here fs rows
unfolding columns_here
are_here i [] rows cs e = (none_taken i rows cs e).1
are_here i (f ∷ fs) rows cs e =
    let h = taken i f fs rows cs e in
    h.is
    ∙ ap (λ behind. record { fxy = f.fxy; spec = f.spec; values = values_from f rows } ∷ behind)
    (are_here (i + 1) fs (map (drop 1) rows) h.behind h.rest)

-- what the places before one say of all
pub record PlacesSoFar (fields : List Field) (others : List Subset) (place : ℕ) : Type 0 where
  pub fails : (fault : MisfitFault)
      → columns_of (place + 1) (drop place fields) (rows_from place others) ≡ Err fault
      → columns_of 1 fields (rows_from 0 others) ≡ Err fault
  pub passes : (cs : List Column)
      → columns_of (place + 1) (drop place fields) (rows_from place others) ≡ Ok cs
      → (all : List Column) × (columns_of 1 fields (rows_from 0 others) ≡ Ok all)

pub no_place_yet : (fields : List Field) (others : List Subset) → PlacesSoFar fields others 0
no_place_yet fields others = record { fails = λ fault e. e; passes = λ cs e. (cs, e) }

pub place_more : (fields : List Field) (others : List Subset) (place : ℕ) (f : Field)
    → PlacesSoFar fields others place → place < length fields → f ≡ get_or fields place f
    → (list_all (begins_like f) (rows_from place others)
    && can_be_column f.spec (values_from f (rows_from place others)))
    ≡ true → PlacesSoFar fields others (place + 1)
place_more fields others place f so_far less is e =
    let next = left_is fields place f less is in
    record {
      fails =
          λ fault fails. so_far.fails fault
          (ap (λ fs. columns_of (place + 1) fs (rows_from place others)) next
          ∙ next_fails place f (drop (place + 1) fields) others fault e fails);
      passes = λ cs passes.
          let all = next_passes place f (drop (place + 1) fields) others cs e passes in
          so_far.passes all.0
          (ap (λ fs. columns_of (place + 1) fs (rows_from place others)) next ∙ all.1);
    }

pub place_refused : (fields : List Field) (others : List Subset) (place : ℕ) (f : Field)
    → PlacesSoFar fields others place → place < length fields → f ≡ get_or fields place f
    → (list_all (begins_like f) (rows_from place others)
    && can_be_column f.spec (values_from f (rows_from place others)))
    ≡ false → columns_of 1 fields (rows_from 0 others) ≡ Err (misfits.NotCompressible (place + 1))
place_refused fields others place f so_far less is e =
    let next = left_is fields place f less is in
    so_far.fails _
    (ap (λ fs. columns_of (place + 1) fs (rows_from place others)) next
    ∙ place_fails place f (drop (place + 1) fields) others e)

pub places_pass : (fields : List Field) (others : List Subset) (place n : ℕ)
    → PlacesSoFar fields others place → length fields ≤ place → place ≤ n → n ≡ length fields
    → list_all is_empty (rows_from n others) ≡ true
    → columns_of 1 fields (rows_from 0 others) ≡ Ok (columns_here fields (rows_from 0 others))
places_pass fields others place n so_far done below size e =
    let same : n ≡ place = omega (arith, done, below, size) in
    let empty : list_all is_empty (rows_from place others) ≡ true =
    ap (λ m. list_all is_empty (rows_from m others)) (sym same) ∙ e in
    let all =
    so_far.passes []
    (ap (λ fs. columns_of (place + 1) fs (rows_from place others)) (drop_all place fields done)
    ∙ end_passes (place + 1) (rows_from place others) empty) in
    all.1 ∙ ap (λ cs. Ok cs) (are_here 1 fields (rows_from 0 others) all.0 all.1)

pub places_end_apart : (fields : List Field) (others : List Subset) (place n : ℕ)
    → PlacesSoFar fields others place → length fields ≤ place → place ≤ n → n ≡ length fields
    → list_all is_empty (rows_from n others) ≡ false
    → columns_of 1 fields (rows_from 0 others) ≡ Err (misfits.NotCompressible (n + 1))
places_end_apart fields others place n so_far done below size e =
    let same : n ≡ place = omega (arith, done, below, size) in
    let some : list_all is_empty (rows_from place others) ≡ false =
    ap (λ m. list_all is_empty (rows_from m others)) (sym same) ∙ e in
    so_far.fails _
    (ap (λ fs. columns_of (place + 1) fs (rows_from place others)) (drop_all place fields done)
    ∙ end_fails (place + 1) (rows_from place others) some)
    ∙ ap (λ m. Err (misfits.NotCompressible (m + 1))) (sym same)
