-- The counted fields are those that fit the template: for `counted_subsets_fit` and the laws of
-- data.
use Rattle.std.proofs.Common.{◌≡◌, ℕ, ◌+◌, ◌≤◌, Bool, true, false, cond, List, [], ◌∷◌, Result, Ok, Err}
use Rattle.std.proofs.Common.{refl, sym, ap, subst, arith}
use Rattle.std.specs.Prelude.{map}
use Rattle.bufr_base.specs.AnswerLaws.{bind_ok, ok_is}
use Rattle.bufr_expand.specs.declared.operators.Spec.{Spec}
use Rattle.bufr_expand.specs.Courses.{Course, ends, stops, asks, course}
use Rattle.bufr_expand.specs.Trees.{Tree}
use Rattle.bufr_expand.specs.Unrolling.{After, Allows}
use Rattle.bufr_expand.specs.Limits.{most_items}
use Rattle.bufr_fields.specs.declared.field.Field.{Field}
use Rattle.bufr_fields.specs.declared.field.Subset.{Subset}
use Rattle.bufr_fields.specs.declared.fault.MisfitFault.{MisfitFault}
use Rattle.bufr_fields.specs.Forms.{number_of, matches_spec, items_of, items_of_all}
use Rattle.bufr_fields.specs.Fits.{HasForm, told_of, FitsWithin, AllFitWithin}
use Rattle.bufr_fields.specs.FormLaws.{asked_is, asked_passes}
use Rattle.bufr_fields.specs.CourseLaws.{AreUnrolled, AreAllowed, Formed}

pub guard_ok : (b : Bool) (x : Result ℕ MisfitFault) (f : MisfitFault) (n : ℕ)
    → cond b x (Err f) ≡ Ok n → (b ≡ true) × (x ≡ Ok n)
guard_ok true x f n e = (refl, e)
guard_ok false x f n e = absurd cc

-- ---- the fields that a course allows

counted_allowed : (j i : ℕ) (c : Course) (fields : List Field) (n : ℕ)
    → items_of j i c fields ≡ Ok n → Allows c (map told_of fields) n × Formed fields
unfolding items_of After
counted_allowed j i (ends m) [] n e = (ap (λ k. ends k) (ok_is m n e), tt)
counted_allowed j i (ends m) (f ∷ fields) n e = absurd cc
counted_allowed j i (stops met fault) fields n e = absurd cc
counted_allowed j i (asks met d spec more) [] n e = absurd cc
counted_allowed j i (asks met d spec more) (f ∷ fields) n e =
    let g = guard_ok (matches_spec d spec f) _ _ n e in
    let is = asked_is d spec f g.0 in
    let others = counted_allowed j (i + 1) (more (number_of f.raw)) fields n g.1 in
    ((is.0, is.1, others.0), (subst (λ (s : Spec). HasForm s f.raw) (sym is.1) is.2, others.1))

allowed_counted : (j i : ℕ) (c : Course) (fields : List Field) (n : ℕ)
    → Allows c (map told_of fields) n → Formed fields → items_of j i c fields ≡ Ok n
unfolding items_of After
allowed_counted j i (ends m) [] n h formed = let is : m ≡ n = cc in ap (λ k. Ok k) is
allowed_counted j i (ends m) (f ∷ fields) n h formed = absurd h
allowed_counted j i (stops met fault) [] n h formed = absurd cc
allowed_counted j i (stops met fault) (f ∷ fields) n h formed = absurd h
allowed_counted j i (asks met d spec more) [] n h formed = absurd cc
allowed_counted j i (asks met d spec more) (f ∷ fields) n h formed =
    let form : HasForm spec f.raw = subst (λ (s : Spec). HasForm s f.raw) h.1 formed.0 in
    rw (asked_passes d spec f (h.0, h.1, form))
    (allowed_counted j (i + 1) (more (number_of f.raw)) fields n h.2 formed.1)

-- ---- one subset

-- fields that are counted fit the tree
pub counted_fit : AreUnrolled → (tree : Tree) (j used n : ℕ) (fields : List Field)
    → used ≤ most_items → items_of j 1 (course tree used) fields ≡ Ok n
    → FitsWithin tree used fields n
counted_fit law tree j used n fields le e =
    let a = counted_allowed j 1 (course tree used) fields n e in
    let u = law tree used (map told_of fields) n le a.0 in
    (u.1, record { operators = u.0; unrolled = u.2; formed = a.1 }, u.3, u.4)

-- fields that fit are counted
pub fitting_counted : AreAllowed → (tree : Tree) (j used n : ℕ) (fields : List Field)
    → FitsWithin tree used fields n → items_of j 1 (course tree used) fields ≡ Ok n
fitting_counted law tree j used n fields h =
    allowed_counted j 1 (course tree used) fields n
    (law tree used (map told_of fields) n
    (h.1.operators, h.0, h.1.unrolled, h.2, h.3)) h.1.formed

-- ---- subsets

-- subsets that are counted fit the tree
pub all_counted_fit : AreUnrolled → (tree : Tree) (j used n : ℕ) (subsets : List Subset)
    → used ≤ most_items → items_of_all (course tree) j used subsets ≡ Ok n
    → AllFitWithin tree used subsets n
unfolding items_of_all
all_counted_fit law tree j used n [] le e =
    let is : used ≡ n = ok_is used n e in
    (0, refl, omega arith, omega arith)
all_counted_fit law tree j used n (s ∷ subsets) le e =
    let a = bind_ok (items_of j 1 (course tree used) s.fields) _ n e in
    let first : FitsWithin tree used s.fields a.0 =
    counted_fit law tree j used a.0 s.fields le a.1 in
    let others : AllFitWithin tree a.0 subsets n =
    all_counted_fit law tree (j + 1) a.0 n subsets first.3 a.2 in (
      first.0 + others.0,
      (first.0, others.0, first.1, others.1, refl),
      omega (arith, first.2, others.2),
      others.3,
    )

-- subsets that fit are counted
pub all_fitting_counted : AreAllowed → (tree : Tree) (j used n : ℕ) (subsets : List Subset)
    → AllFitWithin tree used subsets n → items_of_all (course tree) j used subsets ≡ Ok n
unfolding items_of_all
all_fitting_counted law tree j used n [] h =
    ap (λ k. Ok k) (let none : h.0 ≡ 0 = h.1 in let end : n ≡ used + h.0 = h.2 in omega arith)
all_fitting_counted law tree j used n (s ∷ subsets) h =
    let own = h.1.0 in
    let others = h.1.1 in
    let sum : h.0 ≡ own + others = h.1.4 in
    let end : n ≡ used + h.0 = h.2 in
    let few : n ≤ most_items = h.3 in
    let first : items_of j 1 (course tree used) s.fields ≡ Ok (used + own) =
    fitting_counted law tree j used (used + own) s.fields (own, h.1.2, refl, omega arith) in
    rw first
    (all_fitting_counted law tree (j + 1) (used + own) n subsets
    (others, h.1.3, omega arith, few))
