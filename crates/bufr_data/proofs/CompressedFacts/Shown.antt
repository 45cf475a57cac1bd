-- The subsets of an index of compressed data, by number.
use Rattle.std.proofs.Common.{◌≡◌, ℕ, zero, suc, ◌+◌, ◌<◌, List, length, Some, Result, Ok, Err, sym}
use Rattle.std.proofs.Common.{ap, ◌∙◌, arith, subst}
use Rattle.std.specs.Prelude.{slice_get, IfOk, IfSome}
use Rattle.bufr_fields.specs.declared.field.Subset.{Subset}
use Rattle.bufr_data.specs.declared.subset_index.DataIndex.{DataIndex}
use Rattle.bufr_data.specs.declared.subset_index.DataIndex.TheVariants.{Compressed}
use Rattle.bufr_data.specs.Chosen.{HaveChosen, chosen}
use Rattle.bufr_data.specs.Compressed.{Column, subset_of, subsets_from}
use Rattle.bufr_data.specs.Compressed.Indexed.{Indexed}
use Rattle.bufr_data.specs.Shown.{shown}
use Rattle.bufr_data.proofs.CompressedFacts.Packed.{length-from}

one_from : (k n i : ℕ) (columns : List Column) → i < n
    → slice_get (subsets_from k n columns) i ≡ Some (subset_of columns (k + i))
one_from k zero i columns below = absurd (omega (arith, below))
one_from k (suc n) zero columns below =
    let same : k ≡ k + 0 = omega arith in ap (λ j. Some (subset_of columns j)) same
one_from k (suc n) (suc i) columns below =
    let same : k + 1 + i ≡ k + suc i = omega arith in
    one_from (k + 1) n i columns (omega (arith, below)) ∙ ap (λ j. Some (subset_of columns j)) same

pub many_shown : (standing : DataIndex) (c : Indexed) (subsets : List Subset)
    → shown standing ≡ subsets → standing ≡ Compressed c → length subsets ≡ c.subsets
many_shown standing c subsets view is =
    ap length (sym view ∙ ap shown is) ∙ length-from 0 c.subsets c.columns

pub one_shown : {E : Type 0} (standing : DataIndex) (c : Indexed) (subsets : List Subset) (i : ℕ)
    (answer : Result Subset E) → shown standing ≡ subsets → standing ≡ Compressed c → i < c.subsets
    → IfOk answer (λ s. s ≡ subset_of c.columns i) → IfOk answer (λ s. slice_get subsets i ≡ Some s)
one_shown standing c subsets i (Ok s) view is below value =
    let first : 0 + i ≡ i = omega arith in
    ap (λ xs. slice_get xs i) (sym view ∙ ap shown is) ∙ one_from 0 c.subsets i c.columns below
    ∙ ap (λ j. Some (subset_of c.columns j)) first ∙ ap (λ x. Some x) (sym value)
one_shown standing c subsets i (Err e) view is below value = value

-- columns that have the chosen fields of all columns have those of each subset
chosen_from : (list : List ℕ) (some all : List Column)
    → ((i : ℕ) → (subset_of some i).fields ≡ chosen list (subset_of all i).fields) → (k n i : ℕ)
    → IfSome (slice_get (subsets_from k n all) i)
    (λ s. (subset_of some (k + i)).fields ≡ chosen list s.fields)
chosen_from list some all same k zero i = tt
chosen_from list some all same k (suc n) zero =
    let first : k ≡ k + 0 = omega arith in
    subst (λ j. (subset_of some j).fields ≡ chosen list (subset_of all k).fields) first (same k)
chosen_from list some all same k (suc n) (suc i) =
    let next : k + 1 + i ≡ k + suc i = omega arith in
    subst
    (λ j. IfSome (slice_get (subsets_from (k + 1) n all) i)
    (λ s. (subset_of some j).fields ≡ chosen list s.fields))
    next (chosen_from list some all same (k + 1) n i)

pub have_chosen : (list : List ℕ) (some all : List Column) (n : ℕ)
    → ((i : ℕ) → (subset_of some i).fields ≡ chosen list (subset_of all i).fields)
    → HaveChosen list (subsets_from 0 n all) (record { subsets = n; columns = some })
have_chosen list some all n same =
    let at : (i : ℕ) → 0 + i ≡ i = λ i. omega arith in (
      sym (length-from 0 n all),
      λ i. subst
          (λ j. IfSome (slice_get (subsets_from 0 n all) i)
          (λ s. (subset_of some j).fields ≡ chosen list s.fields))
          (at i) (chosen_from list some all same 0 n i),
    )
