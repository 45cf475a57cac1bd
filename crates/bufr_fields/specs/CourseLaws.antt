-- Fields that a course asks for in turn can begin a subset by the template's tree, and the other
-- way round: for the first refusals of data and of listings.
use Rattle.std.proofs.Common.{◌≡◌, ℕ, ◌+◌, ◌≤◌, List, [], ◌∷◌, ◌++◌, refl, sym, ap, subst, ◌∙◌}
use Rattle.std.proofs.Common.{◌⊎◌, inl, inr}
use Rattle.std.specs.Prelude.{map, ◌↔◌}
use Rattle.std.specs.List.{AllByRecursion}
use Rattle.std.proofs.lemmas.Bool.{cases_lt}
use Rattle.bufr_expand.specs.declared.operators.Operators.{Operators}
use Rattle.bufr_expand.specs.declared.operators.Spec.{Spec}
use Rattle.bufr_expand.specs.declared.walk.WalkFault.TheVariants as walks
use Rattle.bufr_expand.specs.Courses.{Course, ends, stops, asks, course}
use Rattle.bufr_expand.specs.Trees.{Tree}
use Rattle.bufr_expand.specs.Unrolling.{NumberedField, After, Allows, Unrolls, SubsetUnrolls}
use Rattle.bufr_expand.specs.NextFields.{Next, wants, lacks, SubsetBegins, BeginsWithin, MeetsItems}
use Rattle.bufr_expand.specs.NextFields.{PassesLimit, AsksAfter}
use Rattle.bufr_expand.specs.Limits.{most_items}
use Rattle.bufr_fields.specs.declared.field.Field.{Field}
use Rattle.bufr_fields.specs.Forms.{number_of}
use Rattle.bufr_fields.specs.Fits.{HasForm, told_of}
use Rattle.bufr_fields.specs.Asked.{Passes, Begin}

-- ---- what bufr_expand says of courses and trees

-- each course that allows fields is an unrolling (a law of bufr_expand)
abbrev pub AreUnrolled : Type 0
AreUnrolled = (tree : Tree) (used : ℕ) (fields : List NumberedField) (n : ℕ) → used ≤ most_items
    → Allows (course tree used) fields n → Unrolls tree used fields n

-- each unrolling is one that the course allows (a law of bufr_expand)
abbrev pub AreAllowed : Type 0
AreAllowed = (tree : Tree) (used : ℕ) (fields : List NumberedField) (n : ℕ) → Unrolls tree used fields n
    → Allows (course tree used) fields n

-- the field that the course asks for next comes next in the tree (a law of bufr_expand)
abbrev pub IsAskedNext : Type 0
IsAskedNext = (t : Tree) (used : ℕ) (fields : List NumberedField) (met d : ℕ) (spec : Spec)
    → used ≤ most_items → AsksAfter (course t used) fields met d spec
    ↔ BeginsWithin t used fields (wants d spec) met

-- the course stops at an element exactly if it comes next and has no spec (a law of bufr_expand)
abbrev pub IsLackingNext : Type 0
IsLackingNext = (t : Tree) (used : ℕ) (fields : List NumberedField) (met d : ℕ) → used ≤ most_items
    → After (course t used) fields (stops met (walks.EffectiveRange d))
    ↔ BeginsWithin t used fields (lacks d) met

-- the course is too large exactly if an item is above the limit (a law of bufr_expand)
abbrev pub IsTooLargeNext : Type 0
IsTooLargeNext = (t : Tree) (used : ℕ) (fields : List NumberedField) (later : Course) → used ≤ most_items
    → After (course t used) fields later → (later ≡ stops most_items walks.TooLarge)
    ↔ PassesLimit t used fields

-- every course meets a number of items (a law of bufr_expand)
abbrev pub IsOnward : Type 0
IsOnward = (t : Tree) (used : ℕ) (fields : List NumberedField) (later : Course) → used ≤ most_items
    → After (course t used) fields later → (n : ℕ) × MeetsItems t fields n

-- the laws of bufr_expand that these proofs cite
pub record Laws : Type 0 where
  pub unrolled : AreUnrolled
  pub allowed : AreAllowed
  pub asked : IsAskedNext
  pub lacking : IsLackingNext
  pub too_large : IsTooLargeNext
  pub goes_on : IsOnward

-- ---- fields that a course asks for in turn

-- each raw value fits its spec
abbrev pub Formed : List Field → Type 0
Formed fields = AllByRecursion (λ f. HasForm f.spec f.raw) fields

-- `Passes` is `After` with raw values that fit
pub passes_after : (c : Course) (fields : List Field) (next : Course) → Passes c fields next
    → After c (map told_of fields) next × Formed fields
unfolding After
passes_after c [] next h = (h, tt)
passes_after (ends n) (f ∷ fields) next h = absurd h
passes_after (stops n w) (f ∷ fields) next h = absurd h
passes_after (asks met d spec more) (f ∷ fields) next h =
    let others = passes_after (more (number_of f.raw)) fields next h.1 in
    ((h.0.0, h.0.1, others.0), (subst (λ (s : Spec). HasForm s f.raw) (sym h.0.1) h.0.2, others.1))

-- `After` with raw values that fit is `Passes`
pub after_passes : (c : Course) (fields : List Field) (next : Course)
    → After c (map told_of fields) next → Formed fields → Passes c fields next
unfolding After
after_passes c [] next h formed = h
after_passes (ends n) (f ∷ fields) next h formed = absurd h
after_passes (stops n w) (f ∷ fields) next h formed = absurd h
after_passes (asks met d spec more) (f ∷ fields) next h formed = (
  (h.0, h.1, subst (λ (s : Spec). HasForm s f.raw) h.1 formed.0),
  after_passes (more (number_of f.raw)) fields next h.2 formed.1,
)

-- only one course is left after fields
pub one_left : (c : Course) (fields : List NumberedField) (a b : Course) → After c fields a
    → After c fields b → a ≡ b
unfolding After
one_left c [] a b h k = sym h ∙ k
one_left (ends n) (f ∷ fields) a b h k = absurd h
one_left (stops n w) (f ∷ fields) a b h k = absurd h
one_left (asks met d spec more) (f ∷ fields) a b h k = one_left (more f.number) fields a b h.2 k.2

split_asks : (c : Course) (before others : List Field) (f : Field) (next : Course)
    → After c (map told_of (before ++ f ∷ others)) next
    → (met : ℕ) × AsksAfter c (map told_of before) met f.fxy f.spec
unfolding After
split_asks (ends n) [] others f next h = absurd h
split_asks (stops n w) [] others f next h = absurd h
split_asks (asks met d spec more) [] others f next h =
    (met, (more, λ i. asks met (sym h.0 i) (sym h.1 i) more))
split_asks (ends n) (g ∷ before) others f next h = absurd h
split_asks (stops n w) (g ∷ before) others f next h = absurd h
split_asks (asks met d spec more) (g ∷ before) others f next h =
    let r = split_asks (more (number_of g.raw)) before others f next h.2 in
    (r.0, (r.1.0, (h.0, h.1, r.1.1)))

after_one : (c : Course) (before : List Field) (f : Field) (met : ℕ) (more : ℕ → Course)
    → After c (map told_of before) (asks met f.fxy f.spec more)
    → After c (map told_of (before ++ f ∷ [])) (more (number_of f.raw))
unfolding After
after_one c [] f met more h = subst
    (λ (x : Course). After x (told_of f ∷ []) (more (number_of f.raw))) (sym h) (refl, refl, refl)
after_one (ends n) (g ∷ before) f met more h = absurd h
after_one (stops n w) (g ∷ before) f met more h = absurd h
after_one (asks k d spec on) (g ∷ before) f met more h =
    (h.0, h.1, after_one (on (number_of g.raw)) before f met more h.2)

last_of : (fields : List Field)
    → (fields ≡ []) ⊎ ((before : List Field) × (f : Field) × (fields ≡ before ++ f ∷ []))
last_of [] = inl refl
last_of (g ∷ fields) =
    elim (last_of fields) [
      | inl none ↦ inr ([], g, ap (λ fs. g ∷ fs) none)
      | inr some ↦ inr (g ∷ some.0, some.1, ap (λ fs. g ∷ fs) some.2)
    ]

-- ---- fields with which a subset can begin

-- a subset can begin with fields that pass
pub begun : Laws → (tree : Tree) (used : ℕ) (fields : List Field) (next : Course)
    → used ≤ most_items → Passes (course tree used) fields next → Begin tree used fields
begun laws tree used fields next le h =
    let a = passes_after (course tree used) fields next h in
    record {
      each = λ before others f e.
          let r = split_asks (course tree used) before others f next
          (subst (λ (fs : List Field). After (course tree used) (map told_of fs) next) e a.0) in
          (r.0, (laws.asked tree used (map told_of before) r.0 f.fxy f.spec le).0 r.1);
      formed = a.1;
    }

nothing_before : (c : Course) (fields : List Field) → fields ≡ []
    → (next : Course) × After c (map told_of fields) next
unfolding After
nothing_before c fields e =
    (c, subst (λ (fs : List Field). After c (map told_of fs) c) (sym e) refl)

-- fields that can begin a subset leave a course
pub begun_after : Laws → (tree : Tree) (used : ℕ) (fields : List Field) → used ≤ most_items
    → Begin tree used fields → (next : Course) × After (course tree used) (map told_of fields) next
begun_after laws tree used fields le b =
    elim (last_of fields) [
      | inl none ↦ nothing_before (course tree used) fields none
      | inr some ↦
          let before = some.0 in
          let f = some.1 in
          let w = b.each before [] f some.2 in
          let r = (laws.asked tree used (map told_of before) w.0 f.fxy f.spec le).1 w.1 in (
            r.0 (number_of f.raw),
            subst (λ (fs : List Field). After (course tree used) (map told_of fs)
                (r.0 (number_of f.raw))) (sym some.2)
                (after_one (course tree used) before f w.0 r.0 r.1),
          )
    ]

-- ---- no room

next_anyway : Laws → (tree : Tree) (used k n : ℕ) (fields : List NumberedField) (next : Next)
    → used ≤ most_items → used + k ≤ most_items → SubsetBegins tree fields next k
    → After (course tree used) fields (stops n walks.TooLarge) → ⊥
next_anyway laws tree used k n fields (wants d spec) le room begins stopped =
    let r = (laws.asked tree used fields (used + k) d spec le).1 (k, begins, refl, room) in
    let e : ◌≡◌ {A = Course} (stops n walks.TooLarge) (asks (used + k) d spec r.0) =
    one_left (course tree used) fields _ _ stopped r.1 in
    cc
next_anyway laws tree used k n fields (lacks d) le room begins stopped =
    let r = (laws.lacking tree used fields (used + k) d le).1 (k, begins, refl, room) in
    let e : stops n walks.TooLarge ≡ stops (used + k) (walks.EffectiveRange d) =
    one_left (course tree used) fields _ _ stopped r in
    cc

end_anyway : Laws → (tree : Tree) (used k n : ℕ) (fields : List NumberedField) (r : Operators)
    → used + k ≤ most_items → SubsetUnrolls tree fields r k
    → After (course tree used) fields (stops n walks.TooLarge) → ⊥
end_anyway laws tree used k n fields r room unrolled stopped =
    let a = laws.allowed tree used fields (used + k) (r, k, unrolled, refl, room) in
    let e : stops n walks.TooLarge ≡ ends (used + k) =
    one_left (course tree used) fields _ _ stopped a in
    cc

anyway : Laws → (tree : Tree) (used k n : ℕ) (fields : List NumberedField) → used ≤ most_items
    → used + k ≤ most_items → MeetsItems tree fields k
    → After (course tree used) fields (stops n walks.TooLarge) → ⊥
anyway laws tree used k n fields le room (inl next) stopped =
    next_anyway laws tree used k n fields next.0 le room next.1 stopped
anyway laws tree used k n fields le room (inr end) stopped =
    end_anyway laws tree used k n fields end.0 room end.1 stopped

-- a course that is too large meets an item above the limit
pub limit_passed : Laws → (tree : Tree) (used n : ℕ) (fields : List NumberedField) → used ≤ most_items
    → After (course tree used) fields (stops n walks.TooLarge) → PassesLimit tree used fields
limit_passed laws tree used n fields le stopped =
    let g = laws.goes_on tree used fields _ le stopped in
    elim (cases_lt most_items (used + g.0)) [
      | inl lt ↦ (g.0, g.1, lt)
      | inr room ↦ absurd (anyway laws tree used g.0 n fields le room g.1 stopped)
    ]
