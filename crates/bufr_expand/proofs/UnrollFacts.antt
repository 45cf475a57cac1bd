-- A course asks for the fields of an unrolling in order, ends with it, and stops if a field has no
-- spec or an item is above the limit.
use Rattle.std.proofs.Common.{◌≡◌, ◌⊎◌, ◌↔◌, ℕ, ◌+◌, ◌<◌, ◌≤◌, List, [], ◌∷◌, ◌++◌, refl, sym, ap}
use Rattle.std.proofs.Common.{◌∙◌, subst, inl, inr, arith, append-nil}
use Rattle.bufr_expand.specs.Limits.{most_items}
use Rattle.bufr_expand.specs.declared.operators.Operators.{Operators}
use Rattle.bufr_expand.specs.declared.operators.Spec.{Spec}
use Rattle.bufr_expand.specs.declared.walk.WalkFault.TheVariants.{TooLarge, EffectiveRange}
use Rattle.bufr_expand.specs.OperatorsInForce.{none_in_force}
use Rattle.bufr_expand.specs.Courses.{Course, ends, stops, asks, course}
use Rattle.bufr_expand.specs.Trees as trees
use Rattle.bufr_expand.specs.Unrolling.{NumberedField, SubsetUnrolls, After, Unrolls}
use Rattle.bufr_expand.specs.NextFields.{Next, wants, lacks, SubsetBegins, BeginsWithin, MeetsItems}
use Rattle.bufr_expand.specs.NextFields.{PassesLimit, AsksAfter}
use Rattle.bufr_expand.proofs.FollowedFacts.{Comes, come_true, come_to, with_fields, Late, Ahead}
use Rattle.bufr_expand.proofs.FollowedFacts.{tree_follows, Shows, Arrives, tree_meets}
use Rattle.bufr_expand.proofs.PassFacts.{stops_at}
use Rattle.bufr_expand.proofs.FoundFacts.{Still, none_told, tree_finds}

AtField : Next → ℕ → Course → Type 0
AtField next total c = ((total ≤ most_items) × Shows c next total)
    ⊎ ((most_items < total) × (c ≡ stops most_items TooLarge))

AtEnd : ℕ → Course → Type 0
AtEnd total c = ((total ≤ most_items) × (c ≡ ends total))
    ⊎ ((most_items < total) × (c ≡ stops most_items TooLarge))

at_field : (t : trees.Tree) (used : ℕ) (fields : List NumberedField) (next : Next) (n : ℕ) (later : Course)
    → used ≤ most_items → After (course t used) fields later → SubsetBegins t fields next n
    → AtField next (used + n) later
unfolding Arrives Late AtField
at_field t used fields next n later le a b =
    come_to (AtField next (used + n)) (course t used) fields later a
    (tree_meets (Unit {0}) (AtField next (used + n)) t none_in_force
    (record { fields = fields; next = next; items = n }) used (λ q n. ends n) b le
    (λ c fit s. inl (fit, s), λ over. (tt, inr (over, refl))))

at_end : (t : trees.Tree) (used : ℕ) (fields : List NumberedField) (r : Operators) (n : ℕ) (later : Course)
    → used ≤ most_items → After (course t used) fields later → SubsetUnrolls t fields r n
    → AtEnd (used + n) later
unfolding Ahead Late AtEnd Comes
at_end t used fields r n later le a u =
    let P : Course → Type 0 = AtEnd (used + n) in
    come_to P (course t used) fields later a
    (with_fields (Unit {0}) P (course t used) (fields ++ []) fields (append-nil fields)
    (tree_follows (Unit {0}) P t none_in_force
    (record { fields = fields; operators = r; items = n }) used (λ q n. ends n) [] u le
    (λ fit. inl (fit, refl), λ over. (tt, inr (over, refl)))))

pub goes_on : (t : trees.Tree) (used : ℕ) (fields : List NumberedField) (later : Course) → used ≤ most_items
    → After (course t used) fields later → (n : ℕ) × MeetsItems t fields n
unfolding Still
goes_on t used fields later le a =
    elim (tree_finds t none_in_force used (λ q n. ends n) fields later (inr (le, a))) [
      | inl b ↦ (b.1, inl (b.0, b.2))
      | inr s ↦
          let none : s.back ≡ [] = elim (s.behind) [
            | inl e ↦ e
            | inr h ↦ none_told (used + s.front.items) s.back later
                (ends (used + s.front.items)) (inl refl) h.1
          ] in
          let whole : s.front.fields ≡ fields =
          sym (s.joined ∙ ap (λ l. s.front.fields ++ l) none ∙ append-nil s.front.fields) in
          let P : List NumberedField → Type 0 = λ l. SubsetUnrolls t l s.front.operators s.front.items in
          (s.front.items, inr (s.front.operators, subst P whole s.here))
    ]

-- what a course can be after some fields
data Verdict (t : trees.Tree) (used : ℕ) (fields : List NumberedField) (later : Course) : Type 0 where
  at_next : (next : Next) → (n : ℕ) → SubsetBegins t fields next n → used + n ≤ most_items
      → Shows later next (used + n) → Verdict t used fields later
  ended : (r : Operators) → (n : ℕ) → SubsetUnrolls t fields r n → used + n ≤ most_items
      → later ≡ ends (used + n) → Verdict t used fields later
  too_many : (n : ℕ) → MeetsItems t fields n → most_items < used + n
      → later ≡ stops most_items TooLarge → Verdict t used fields later

verdict : (t : trees.Tree) (used : ℕ) (fields : List NumberedField) (later : Course) → used ≤ most_items
    → After (course t used) fields later → Verdict t used fields later
unfolding AtField AtEnd
verdict t used fields later le a =
    let g = goes_on t used fields later le a in
    elim (g.1) [
      | inl b ↦
          elim (at_field t used fields b.0 g.0 later le a b.1)
          [ inl h ↦ at_next b.0 g.0 b.1 h.0 h.1 | inr h ↦ too_many g.0 (inl b) h.0 h.1 ]
      | inr u ↦
          elim (at_end t used fields u.0 g.0 later le a u.1)
          [ inl h ↦ ended u.0 g.0 u.1 h.0 h.1 | inr h ↦ too_many g.0 (inr u) h.0 h.1 ]
    ]

shown_asks : (c : Course) (d : ℕ) (spec : Spec) (n : ℕ) → Shows c (wants d spec) n
    → (more : ℕ → Course) × (c ≡ asks n d spec more)
unfolding Shows
shown_asks (ends m) d spec n h = absurd h
shown_asks (stops m fault) d spec n h = absurd h
shown_asks (asks met k s more) d spec n h = (
  more,
  ap (λ m. asks m k s more) h.0 ∙ ap (λ k. asks n k s more) h.1
      ∙ ap (λ s. asks n d s more) h.2,
)

shown_stops : (c : Course) (d n : ℕ) → Shows c (lacks d) n → c ≡ stops n (EffectiveRange d)
unfolding Shows
shown_stops (ends m) d n h = absurd h
shown_stops (stops m fault) d n h = ap (λ m. stops m fault) h.0 ∙ ap (λ f. stops n f) h.1
shown_stops (asks met k s more) d n h = absurd h

shown : (t : trees.Tree) (used : ℕ) (fields : List NumberedField) (next : Next) (met : ℕ)
    → BeginsWithin t used fields next met → (later : Course) × After (course t used) fields later
    × Shows later next met
unfolding Arrives Late
shown t used fields next met h =
    let n = h.0 in
    let total : met ≡ used + n = h.2 in
    let few : met ≤ most_items = h.3 in
    let P : Course → Type 0 = λ c. Shows c next met in
    let Q : ℕ → Type 0 = λ m. (c : Course) → m ≤ most_items → Shows c next m → P c in
    let now : (c : Course) → met ≤ most_items → Shows c next met → P c = λ c fit s. s in
    come_true P (course t used) fields
    (tree_meets ⊥ P t none_in_force (record { fields = fields; next = next; items = n }) used
    (λ q n. ends n) h.1 (omega arith) (
      subst Q total now,
      λ over. let no : ⊥ = omega arith in
          (no, absurd no),
    ))

next_of : (t : trees.Tree) (used : ℕ) (fields : List NumberedField) (met d : ℕ) (spec : Spec)
    (more : ℕ → Course) → Verdict t used fields (asks met d spec more)
    → BeginsWithin t used fields (wants d spec) met
unfolding Shows
next_of t used fields met d spec more (at_next (wants k s) n b fit h) =
    let P : Next → Type 0 = λ v. SubsetBegins t fields v n in
    let same : wants k s ≡ wants d spec =
    sym (ap (λ k. wants k spec) h.1 ∙ ap (λ s. wants k s) h.2) in
    let count : met ≡ used + n = h.0 in
    (n, subst P same b, count, omega arith)
next_of t used fields met d spec more (at_next (lacks k) n b fit h) = absurd h
next_of t used fields met d spec more (ended r n u fit e) = cc
next_of t used fields met d spec more (too_many n g over e) = cc

pub asked : (t : trees.Tree) (used : ℕ) (fields : List NumberedField) (met d : ℕ) (spec : Spec)
    → used ≤ most_items → AsksAfter (course t used) fields met d spec
    ↔ BeginsWithin t used fields (wants d spec) met
asked t used fields met d spec le = (
  λ h. next_of t used fields met d spec h.0 (verdict t used fields (asks met d spec h.0) le h.1),
  λ b.
      let s = shown t used fields (wants d spec) met b in
      let p = shown_asks s.0 d spec met s.2 in
      let P : Course → Type 0 = λ c. After (course t used) fields c in
      (p.0, subst P p.1 s.1),
)

lack_of : (t : trees.Tree) (used : ℕ) (fields : List NumberedField) (met d : ℕ)
    → Verdict t used fields (stops met (EffectiveRange d))
    → BeginsWithin t used fields (lacks d) met
unfolding Shows
lack_of t used fields met d (at_next (wants k s) n b fit h) = absurd h
lack_of t used fields met d (at_next (lacks k) n b fit h) =
    let P : Next → Type 0 = λ v. SubsetBegins t fields v n in
    let e : EffectiveRange d ≡ EffectiveRange k = h.1 in
    let same : k ≡ d = cc in
    let count : met ≡ used + n = h.0 in
    (n, subst P (ap lacks same) b, count, omega arith)
lack_of t used fields met d (ended r n u fit e) = cc
lack_of t used fields met d (too_many n g over e) = cc

pub lacking : (t : trees.Tree) (used : ℕ) (fields : List NumberedField) (met d : ℕ) → used ≤ most_items
    → After (course t used) fields (stops met (EffectiveRange d))
    ↔ BeginsWithin t used fields (lacks d) met
lacking t used fields met d le = (
  λ h. lack_of t used fields met d (verdict t used fields (stops met (EffectiveRange d)) le h),
  λ b.
      let s = shown t used fields (lacks d) met b in
      let P : Course → Type 0 = λ c. After (course t used) fields c in
      subst P (shown_stops s.0 d met s.2) s.1,
)

past_of : (t : trees.Tree) (used : ℕ) (fields : List NumberedField) (met : ℕ)
    → Verdict t used fields (stops met TooLarge) → PassesLimit t used fields
unfolding Shows
past_of t used fields met (at_next (wants k s) n b fit h) = absurd h
past_of t used fields met (at_next (lacks k) n b fit h) = let e : TooLarge ≡ EffectiveRange k =
    h.1 in cc
past_of t used fields met (ended r n u fit e) = cc
past_of t used fields met (too_many n g over e) = (n, g, over)

past : (t : trees.Tree) (used : ℕ) (fields : List NumberedField) (later : Course) → used ≤ most_items
    → After (course t used) fields later → PassesLimit t used fields
    → later ≡ stops most_items TooLarge
unfolding AtField AtEnd
past t used fields later le a h =
    let n = h.0 in
    let over : most_items < used + n = h.2 in
    elim (h.1) [
      | inl b ↦ elim (at_field t used fields b.0 n later le a b.1)
          [ inl f ↦ let fit : used + n ≤ most_items = f.0 in absurd (omega arith) | inr f ↦ f.1 ]
      | inr u ↦ elim (at_end t used fields u.0 n later le a u.1)
          [ inl f ↦ let fit : used + n ≤ most_items = f.0 in absurd (omega arith) | inr f ↦ f.1 ]
    ]

pub too_large : (t : trees.Tree) (used : ℕ) (fields : List NumberedField) (later : Course)
    → used ≤ most_items → After (course t used) fields later → (later ≡ stops most_items TooLarge)
    ↔ PassesLimit t used fields
too_large t used fields later le a = (
  λ e.
      let P : Course → Type 0 = λ c. Verdict t used fields c in
      past_of t used fields most_items (subst P e (verdict t used fields later le a)),
  past t used fields later le a,
)

end_of : (t : trees.Tree) (used : ℕ) (fields : List NumberedField) (m : ℕ) → Verdict t used fields (ends m)
    → Unrolls t used fields m
unfolding Shows
end_of t used fields m (at_next next n b fit h) = absurd h
end_of t used fields m (ended r n u fit e) = let count : m ≡ used + n = cc in
    (r, n, u, count, omega arith)
end_of t used fields m (too_many n g over e) = cc

pub unrolled : (t : trees.Tree) (used : ℕ) (fields : List NumberedField) (n : ℕ) → used ≤ most_items
    → After (course t used) fields (ends n) → Unrolls t used fields n
unrolled t used fields n le a = end_of t used fields n (verdict t used fields (ends n) le a)

pub allowed : (t : trees.Tree) (used : ℕ) (fields : List NumberedField) (n : ℕ) → Unrolls t used fields n
    → After (course t used) fields (ends n)
unfolding Ahead Late Comes
allowed t used fields n h =
    let m = h.1 in
    let end : n ≡ used + m = h.3 in
    let few : n ≤ most_items = h.4 in
    let P : Course → Type 0 = λ c. c ≡ ends n in
    let s = come_true P (course t used) fields
    (with_fields ⊥ P (course t used) (fields ++ []) fields (append-nil fields)
    (tree_follows ⊥ P t none_in_force (record { fields = fields; operators = h.0; items = m }) used
    (λ q n. ends n) [] h.2 (omega arith)
    (λ fit. ap ends (sym end), λ over. let no : ⊥ = omega arith in (no, absurd no)))) in
    let Q : Course → Type 0 = λ c. After (course t used) fields c in
    subst Q s.2 s.1

pub full : (t : trees.Tree) (used : ℕ) → (t ≡ trees.done → ⊥) → most_items ≤ used
    → course t used ≡ stops used TooLarge
full t used some above = stops_at t none_in_force used (λ q n. ends n) some above

next_asked : (c : Course) (fields others : List NumberedField) (f : NumberedField) (later : Course)
    → After c (fields ++ f ∷ others) later → (met : ℕ) × AsksAfter c fields met f.fxy f.spec
unfolding After
next_asked (ends m) [] others f later a = absurd a
next_asked (ends m) (g ∷ gs) others f later a = absurd a
next_asked (stops m fault) [] others f later a = absurd a
next_asked (stops m fault) (g ∷ gs) others f later a = absurd a
next_asked (asks met d spec more) [] others f later a =
    (met, (more, sym (ap (λ k. asks met k f.spec more) a.0 ∙ ap (λ s. asks met d s more) a.1)))
next_asked (asks met d spec more) (g ∷ gs) others f later a =
    let p = next_asked (more g.number) gs others f later a.2 in
    (p.0, (p.1.0, (a.0, a.1, p.1.1)))

pub front : (t : trees.Tree) (used : ℕ) (fields others : List NumberedField) (f : NumberedField) (n : ℕ)
    → Unrolls t used (fields ++ f ∷ others) n → (met : ℕ)
    × BeginsWithin t used fields (wants f.fxy f.spec) met
front t used fields others f n h =
    let end : n ≡ used + h.1 = h.3 in
    let few : n ≤ most_items = h.4 in
    let p = next_asked (course t used) fields others f (ends n)
    (allowed t used (fields ++ f ∷ others) n h) in
    (p.0, (asked t used fields p.0 f.fxy f.spec (omega arith)).0 p.1)
