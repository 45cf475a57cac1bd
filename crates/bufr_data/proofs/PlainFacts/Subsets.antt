-- Reading one subset after another.
use Rattle.std.proofs.Common.{◌≡◌, ℕ, suc, ◌+◌, ◌-◌, ◌<◌, ◌≤◌, Bool, List, [], ◌∷◌, ◌++◌, Option}
use Rattle.std.proofs.Common.{Some, None, Result, Ok, Err, refl, sym, ap, ◌∙◌, arith, append_assoc}
use Rattle.std.proofs.lemmas.List.{append-nil}
use Rattle.bufr_base.specs.Answers.{◌>>=◌, Fails, result_map}
use Rattle.bufr_base.specs.declared.failure.Failure.{Failure}
use Rattle.bufr_base.specs.declared.failure.Failure.TheVariants.{Fault, OutOfMemory}
use Rattle.bufr_expand.specs.declared.operators.Spec.{Spec}
use Rattle.bufr_expand.specs.declared.walk.WalkFault.{WalkFault}
use Rattle.bufr_expand.specs.declared.walk.WalkFault.TheVariants as walks
use Rattle.bufr_expand.specs.Courses.{Course, ends, stops, asks}
use Rattle.bufr_fields.specs.declared.field.Raw.{Raw}
use Rattle.bufr_fields.specs.declared.field.Subset.{Subset}
use Rattle.bufr_fields.specs.declared.fault.DataFault.{DataFault}
use Rattle.bufr_data.specs.Plain.{SubsetRead, SubsetsRead, raw_at, field_then, stopped, fields_at}
use Rattle.bufr_data.specs.Plain.{subsets_at}
use Rattle.bufr_fields.specs.Forms.{number_of}
use Rattle.bufr_data.specs.Plain.Numbered.{failure_of_subset, numbered, after}

stopped_numbered : {A : Type 0} (j : ℕ) (fault : WalkFault)
    → stopped {A = A} fault ≡ numbered j (stopped {A = A} fault)
stopped_numbered j walks.TooLarge = refl
stopped_numbered j (walks.EffectiveRange d) = refl

ok_numbered : {A B : Type 0} (j : ℕ) (f : A → B) (x : Result A DataFault)
    → (numbered j x >>= λ a. Ok (f a)) ≡ numbered j (x >>= λ a. Ok (f a))
ok_numbered j f (Ok a) = refl
ok_numbered j f (Err e) = refl

field_numbered : (j i d : ℕ) (spec : Spec) (one other : ℕ → List Bool → Result SubsetRead DataFault)
    (x : Option (Raw × List Bool))
    → ((n : ℕ) (rest : List Bool) → other n rest ≡ numbered j (one n rest))
    → field_then j i d spec other x ≡ numbered j (field_then 1 i d spec one x)
field_numbered j i d spec one other None same = refl
field_numbered j i d spec one other (Some x) same =
    rw (same (number_of x.0) x.1)
    (ok_numbered j
    (λ (found : SubsetRead).
    record found { fields = record { fxy = d; spec = spec; raw = x.0 } ∷ found.fields })
    (one (number_of x.0) x.1))

pub fields_at_numbered : (j i : ℕ) (c : Course) (text : List Bool)
    → fields_at j i c text ≡ numbered j (fields_at 1 i c text)
unfolding fields_at
fields_at_numbered j i (ends n) text = refl
fields_at_numbered j i (stops met fault) text = stopped_numbered j fault
fields_at_numbered j i (asks met d spec more) text =
    field_numbered j i d spec (λ n rest. fields_at 1 (i + 1) (more n) rest)
    (λ n rest. fields_at j (i + 1) (more n) rest) (raw_at spec text)
    (λ n rest. fields_at_numbered j (i + 1) (more n) rest)

pub fails_numbered : {A : Type 0} (j : ℕ) (failure : Failure DataFault) (x : Result A DataFault)
    → Fails failure x → Fails (failure_of_subset j failure) (numbered j x)
fails_numbered j (Fault f) x fails = ap (numbered j) fails
fails_numbered j OutOfMemory x fails = tt

one_less : (n index : ℕ) → index < n → n - index ≡ suc (n - (index + 1))
one_less n index h = omega arith

join_after : (before : List Subset) (s : Subset) (x : Result SubsetsRead DataFault)
    → after before (x >>= λ others. Ok (record others { subsets = s ∷ others.subsets }))
    ≡ after (before ++ s ∷ []) x
join_after before s (Ok others) =
    ap (λ (xs : List Subset). Ok (record others { subsets = xs }))
    (sym (append_assoc before (s ∷ []) others.subsets))
join_after before s (Err e) = refl

pub one_more : (course : ℕ → Course) (n index used : ℕ) (text : List Bool) (before : List Subset)
    (all : Result SubsetsRead DataFault) (first : SubsetRead) → index < n
    → all ≡ after before (subsets_at course (index + 1) (n - index) used text)
    → fields_at (index + 1) 1 (course used) text ≡ Ok first
    → all
    ≡ after (before ++ record { fields = first.fields } ∷ [])
    (subsets_at course (index + 1 + 1) (n - (index + 1)) first.items first.rest)
unfolding subsets_at
one_more course n index used text before all first below is found =
    is
    ∙ rw (one_less n index below, found)
    (join_after before (record { fields = first.fields })
    (subsets_at course (index + 1 + 1) (n - (index + 1)) first.items first.rest))

pub one_fails : (course : ℕ → Course) (n index used : ℕ) (text : List Bool) (before : List Subset)
    (all : Result SubsetsRead DataFault) (failure : Failure DataFault) → index < n
    → all ≡ after before (subsets_at course (index + 1) (n - index) used text)
    → Fails failure (fields_at (index + 1) 1 (course used) text) → Fails failure all
unfolding subsets_at
one_fails course n index used text before all (Fault fault) below is fails =
    is ∙ rw (one_less n index below, fails) refl
one_fails course n index used text before all OutOfMemory below is fails = tt

pub all_read : (course : ℕ → Course) (j n index used : ℕ) (text : List Bool) (before : List Subset)
    (all : Result SubsetsRead DataFault) → n ≤ index
    → all ≡ after before (subsets_at course j (n - index) used text)
    → all ≡ Ok (record { subsets = before; items = used; rest = text })
unfolding subsets_at
all_read course j n index used text before all past is =
    let none : n - index ≡ 0 = omega arith in
    is ∙ rw (none, append-nil before) refl

pub fails_map : {A B F : Type 0} (failure : Failure F) (f : A → B) (x : Result A F)
    → Fails failure x → Fails failure (result_map f x)
fails_map (Fault fault) f x fails = ap (result_map f) fails
fails_map OutOfMemory f x fails = tt
