-- The bits and items of fields and subsets written in turn.
use Rattle.bufr_base.specs.Answers.{Fails, result_map}
use Rattle.std.proofs.Common.{◌≡◌, ℕ, ◌+◌, ◌<◌, ◌≤◌, Bool, true, List, [], ◌∷◌, ◌++◌, length, take}
use Rattle.std.proofs.Common.{drop, get_or, Result, Ok, refl, sym, ap, subst, ◌∙◌}
use Rattle.std.proofs.lemmas.List.{take_all, drop_all}
use Rattle.bufr_base.specs.declared.failure.Failure.{Failure}
use Rattle.bufr_base.specs.declared.failure.Failure.TheVariants.{Fault, OutOfMemory}
use Rattle.bufr_expand.specs.declared.operators.Spec.{Spec}
use Rattle.bufr_expand.specs.Courses.{Course, ends, stops, asks}
use Rattle.bufr_fields.specs.declared.field.Field.{Field}
use Rattle.bufr_fields.specs.declared.field.Subset.{Subset}
use Rattle.bufr_fields.specs.declared.fault.MisfitFault.{MisfitFault}
use Rattle.bufr_fields.specs.Forms.{number_of, matches_spec, items_of, items_of_all}
use Rattle.bufr_data.specs.Plain.{plain, plain_subsets}
use Rattle.bufr_data.specs.Subsets.{has_own_form}
use Rattle.bufr_fields.specs.FitLaws.{guard_ok}
use Rattle.std.specs.List.{flat_map, list_all}
use Rattle.bufr_fields.specs.Fits.{HasForm}
use Rattle.bufr_fields.specs.FormLaws.{asked_is, form_passes}
use Rattle.bufr_data.proofs.ListFacts.{front_is, left_is, put_grown}

pub bits_step : {X : Type 0} → (f : X → List Bool) (k : ℕ) (xs : List X) (x : X)
    (old mid new : List Bool) → k < length xs → x ≡ get_or xs k x
    → mid ≡ old ++ flat_map f (take k xs) → new ≡ mid ++ f x
    → new ≡ old ++ flat_map f (take (k + 1) xs)
bits_step f k xs x old mid new h is so_far put =
    put_grown f (take k xs) (take (k + 1) xs) x old mid new (front_is xs k x h is) so_far put

pub bits_end : (k : ℕ) (fields : List Field) (old new : List Bool) → length fields ≤ k
    → new ≡ old ++ plain (take k fields) → new ≡ old ++ plain fields
bits_end k fields old new h so_far = so_far ∙ ap (λ fs. old ++ plain fs) (take_all k fields h)

one_more : (course : ℕ → Course) (j used n : ℕ) (s : Subset) (rest : List Subset)
    → items_of j 1 (course used) s.fields ≡ Ok n
    → items_of_all course j used (s ∷ rest) ≡ items_of_all course (j + 1) n rest
unfolding items_of_all
one_more course j used n s rest e = rw e refl

one_fails : (course : ℕ → Course) (j used : ℕ) (s : Subset) (rest : List Subset)
    (e : Failure MisfitFault) → Fails e (items_of j 1 (course used) s.fields)
    → Fails e (items_of_all course j used (s ∷ rest))
unfolding items_of_all
one_fails course j used s rest OutOfMemory h = tt
one_fails course j used s rest (Fault f) h = rw h refl

none_left : (course : ℕ → Course) (j used : ℕ) → items_of_all course j used [] ≡ Ok used
unfolding items_of_all
none_left course j used = refl

pub subsets_step : (course : ℕ → Course) (k used n : ℕ) (subsets : List Subset) (s : Subset)
    (whole : Result ℕ MisfitFault) → k < length subsets → s ≡ get_or subsets k s
    → whole ≡ items_of_all course (k + 1) used (drop k subsets)
    → items_of (k + 1) 1 (course used) s.fields ≡ Ok n
    → whole ≡ items_of_all course (k + 1 + 1) n (drop (k + 1) subsets)
subsets_step course k used n subsets s whole h is so_far e =
    so_far ∙ ap (λ ss. items_of_all course (k + 1) used ss) (left_is subsets k s h is)
    ∙ one_more course (k + 1) used n s (drop (k + 1) subsets) e

pub subsets_fail : (course : ℕ → Course) (k used : ℕ) (subsets : List Subset) (s : Subset)
    (whole : Result ℕ MisfitFault) (e : Failure MisfitFault) → k < length subsets
    → s ≡ get_or subsets k s → whole ≡ items_of_all course (k + 1) used (drop k subsets)
    → Fails e (items_of (k + 1) 1 (course used) s.fields)
    → Fails e (result_map (λ items. plain_subsets subsets) whole)
subsets_fail course k used subsets s whole OutOfMemory h is so_far fails = tt
subsets_fail course k used subsets s whole (Fault f) h is so_far fails =
    ap (result_map (λ items. plain_subsets subsets)) (so_far
    ∙ ap (λ ss. items_of_all course (k + 1) used ss) (left_is subsets k s h is)
    ∙ one_fails course (k + 1) used s (drop (k + 1) subsets) (Fault f) fails)

pub subsets_end : (course : ℕ → Course) (k used : ℕ) (subsets : List Subset)
    (whole : Result ℕ MisfitFault) → length subsets ≤ k
    → whole ≡ items_of_all course (k + 1) used (drop k subsets)
    → result_map (λ items. plain_subsets subsets) whole ≡ Ok (plain_subsets subsets)
subsets_end course k used subsets whole h so_far =
    ap (result_map (λ items. plain_subsets subsets))
    (so_far ∙ ap (λ ss. items_of_all course (k + 1) used ss) (drop_all k subsets h)
    ∙ none_left course (k + 1) used)

own_form : (d : ℕ) (spec : Spec) (f : Field) → matches_spec d spec f ≡ true → has_own_form f ≡ true
own_form d spec f e =
    let is = asked_is d spec f e in
    form_passes f.spec f.raw (subst (λ (x : Spec). HasForm x f.raw) (sym is.1) is.2)

pub counted_forms : (j i : ℕ) (c : Course) (fields : List Field) (n : ℕ)
    → items_of j i c fields ≡ Ok n → list_all has_own_form fields ≡ true
unfolding items_of
counted_forms j i c [] n e = refl
counted_forms j i (ends m) (f ∷ fields) n e = absurd cc
counted_forms j i (stops m fault) (f ∷ fields) n e = absurd cc
counted_forms j i (asks met d spec more) (f ∷ fields) n e =
    let g = guard_ok (matches_spec d spec f) _ _ n e in
    rw (own_form d spec f g.0, counted_forms j (i + 1) (more (number_of f.raw)) fields n g.1) refl
