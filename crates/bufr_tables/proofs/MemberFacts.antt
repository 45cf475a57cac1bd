-- Members of ascending lists; the order in which rows come does not matter.
use Rattle.std.proofs.Common.{◌≡◌, ◌≢◌, ◌∙◌, ◌⊎◌, inl, inr, ℕ, ◌<◌, ◌==◌, true, false, List, []}
use Rattle.std.proofs.Common.{◌∷◌, ◌++◌, Some, None, refl, sym, ap, arith}
use Rattle.std.specs.Prelude.{Contains}
use Rattle.std.proofs.lemmas.Bool.{cases_order}
use Rattle.std.proofs.lemmas.Bool.Decides.{nat_tests}
use Rattle.std.proofs.lemmas.List.Elements.{Contains-append_left, Contains-append_right}
use Rattle.std.proofs.lemmas.List.Elements.{Contains-push, Contains-push_cases}
use Rattle.std.proofs.lemmas.List.Elements.{Contains-append_cases}
use Rattle.std.specs.Ordering.{nat_cmp}
use Rattle.std.specs.BTreeMap.{insert_entry}
use Rattle.bufr_tables.specs.Entries.{at, Rising}
use Rattle.bufr_tables.specs.Sheets.{SameMembers}
use Rattle.bufr_tables.specs.EntryLaws.{less, greater, rising-rest}

pub contains-none : {X : Type 0} (x : X) → Contains [] x → ⊥
contains-none x h = absurd (omega (arith, h.1))

pub contains-first : {X : Type 0} (x : X) (xs : List X) → Contains (x ∷ xs) x
contains-first x xs = Contains-append_left (x ∷ []) xs x (Contains-push [] x)

pub contains-more : {X : Type 0} (x y : X) (xs : List X) → Contains xs y → Contains (x ∷ xs) y
contains-more x y xs h = Contains-append_right (x ∷ []) xs y h

pub contains-one : {X : Type 0} (x y : X) → Contains (x ∷ []) y → x ≡ y
contains-one x y h =
    elim (Contains-push_cases [] x y h) [ inl n ↦ absurd (contains-none y n) | inr e ↦ e ]

pub contains-cases : {X : Type 0} (x y : X) (xs : List X) → Contains (x ∷ xs) y
    → (x ≡ y) ⊎ Contains xs y
contains-cases x y xs h =
    elim (Contains-append_cases (x ∷ []) xs y h)
    [ inl l ↦ inl (contains-one x y l) | inr r ↦ inr r ]

pub same-self : {X : Type 0} (xs : List X) → SameMembers xs xs
same-self xs x = (λ h. h, λ h. h)

pub same-back : {X : Type 0} (xs ys : List X) → SameMembers xs ys → SameMembers ys xs
same-back xs ys h x = ((h x).1, (h x).0)

pub same-through : {X : Type 0} (xs ys zs : List X) → SameMembers xs ys → SameMembers ys zs
    → SameMembers xs zs
same-through xs ys zs h k x = (λ m. (k x).0 ((h x).0 m), λ m. (h x).1 ((k x).1 m))

either : {X : Type 0} (xs xs' ys ys' : List X) → ((x : X) → Contains xs x → Contains xs' x)
    → ((x : X) → Contains ys x → Contains ys' x) → (x : X) → Contains (xs ++ ys) x
    → Contains (xs' ++ ys') x
either xs xs' ys ys' h k x m =
    elim (Contains-append_cases xs ys x m) [
      | inl l ↦ Contains-append_left xs' ys' x (h x l)
      | inr r ↦
          Contains-append_right xs' ys' x (k x r)
    ]

pub same-append : {X : Type 0} (xs xs' ys ys' : List X) → SameMembers xs xs' → SameMembers ys ys'
    → SameMembers (xs ++ ys) (xs' ++ ys')
same-append xs xs' ys ys' h k x = (
  either xs xs' ys ys' (λ z. (h z).0) (λ z. (k z).0) x,
  either xs' xs ys' ys (λ z. (h z).1) (λ z. (k z).1) x,
)

turned : {X : Type 0} (xs ys : List X) (x : X) → Contains (xs ++ ys) x → Contains (ys ++ xs) x
turned xs ys x m =
    elim (Contains-append_cases xs ys x m)
    [ inl l ↦ Contains-append_right ys xs x l | inr r ↦ Contains-append_left ys xs x r ]

pub same-turned : {X : Type 0} (xs ys : List X) → SameMembers (xs ++ ys) (ys ++ xs)
same-turned xs ys x = (turned xs ys x, turned ys xs x)

pub same-again : {X : Type 0} (xs : List X) (y : X) → Contains xs y → SameMembers xs (xs ++ y ∷ [])
same-again xs y h x = (
  Contains-append_left xs (y ∷ []) x,
  λ m. elim (Contains-push_cases xs y x m) [ inl l ↦ l | inr e ↦ rw (← e) h ],
)

at-first : {X : Type 0} (d : ℕ) (e : ℕ × X) (es : List (ℕ × X)) → e.0 ≡ d → at d (e ∷ es) ≡ Some e.1
unfolding at
at-first d e es h = let t : (e.0 == d) ≡ true = grind (arith, nat_tests) in rw t

at-other : {X : Type 0} (d : ℕ) (e : ℕ × X) (es : List (ℕ × X)) → e.0 ≢ d → at d (e ∷ es) ≡ at d es
unfolding at
at-other d e es h = let t : (e.0 == d) ≡ false = grind (arith, nat_tests) in rw t

at-nil : {X : Type 0} (d : ℕ) → at {X = X} d [] ≡ None
unfolding at
at-nil d = refl

pub at-contained : {X : Type 0} (d : ℕ) (v : X) (es : List (ℕ × X)) → at d es ≡ Some v
    → Contains es (d, v)
at-contained d v [] h = absurd (let g : None ≡ Some v = sym (at-nil d) ∙ h in cc)
at-contained d v (e ∷ es) h =
    elim (cases_order e.0 d) [
      | inl k ↦ let g : Some e.1 ≡ Some v = sym (at-first d e es k) ∙ h in let p : e.1 ≡ v = cc in
          rw (← k, ← p) (contains-first e es)
      | inr k ↦
          let n : e.0 ≢ d =
          elim k [ inl l ↦ λ q. absurd (omega arith) | inr l ↦ λ q. absurd (omega arith) ] in
          contains-more e (d, v) es (at-contained d v es (sym (at-other d e es n) ∙ h))
    ]

pub rising-below : {X : Type 0} (a : ℕ × X) (es : List (ℕ × X)) (x : ℕ × X) → Rising (a ∷ es)
    → Contains es x → a.0 < x.0
rising-below a [] x r h = absurd (contains-none x h)
rising-below a (b ∷ es) x r h =
    elim (contains-cases b x es h) [
      | inl e ↦ rw (← e) r.0
      | inr k ↦ let l : b.0 < x.0 = rising-below b es x r.1 k in let m : a.0 < b.0 = r.0 in
          omega arith
    ]

pub at-only : {X : Type 0} (d : ℕ) (v : X) (es : List (ℕ × X)) → Rising es → Contains es (d, v)
    → at d es ≡ Some v
at-only d v [] r h = absurd (contains-none (d, v) h)
at-only d v (e ∷ es) r h =
    elim (contains-cases e (d, v) es h) [
      | inl k ↦ at-first d e es (ap (λ (p : ℕ × _). p.0) k) ∙ ap Some (ap (λ (p : ℕ × _). p.1) k)
      | inr k ↦ let l : e.0 < d = rising-below e es (d, v) r k in let n : e.0 ≢ d = omega arith in
          at-other d e es n ∙ at-only d v es (rising-rest e es r) k
    ]

first-same : {X : Type 0} (x y : ℕ × X) (xs ys : List (ℕ × X)) → Rising (x ∷ xs) → Rising (y ∷ ys)
    → (y ≡ x) ⊎ Contains ys x → (x ≡ y) ⊎ Contains xs y → x ≡ y
first-same x y xs ys r s (inl e) b = sym e
first-same x y xs ys r s (inr m) (inl e) = e
first-same x y xs ys r s (inr m) (inr n) =
    let p : y.0 < x.0 =
    rising-below y ys x s m in let q : x.0 < y.0 = rising-below x xs y r n in absurd (omega arith)

rest-kept : {X : Type 0} (x y : ℕ × X) (xs ys : List (ℕ × X)) (z : ℕ × X) → x ≡ y → Rising (x ∷ xs)
    → (Contains (x ∷ xs) z → Contains (y ∷ ys) z) → Contains xs z → Contains ys z
rest-kept {X} x y xs ys z e r k m =
    elim (contains-cases y z ys (k (contains-more x z xs m))) [
      | inl q ↦ let lt : x.0 < z.0 = rising-below x xs z r m in let same : x.0
          ≡ z.0 = ap (λ (p : ℕ × X). p.0) (e ∙ q) in absurd (omega arith)
      | inr n ↦ n
    ]

pub same-rising : {X : Type 0} (xs ys : List (ℕ × X)) → Rising xs → Rising ys → SameMembers xs ys
    → xs ≡ ys
same-rising [] [] r s h = refl
same-rising [] (y ∷ ys) r s h = absurd (contains-none y ((h y).1 (contains-first y ys)))
same-rising (x ∷ xs) [] r s h = absurd (contains-none x ((h x).0 (contains-first x xs)))
same-rising (x ∷ xs) (y ∷ ys) r s h =
    let e : x ≡ y =
    first-same x y xs ys r s (contains-cases y x ys ((h x).0 (contains-first x xs)))
    (contains-cases x y xs ((h y).1 (contains-first y ys))) in
    let rest : xs ≡ ys =
    same-rising xs ys (rising-rest x xs r) (rising-rest y ys s)
    (λ z. (rest-kept x y xs ys z e r (h z).0, rest-kept y x ys xs z (sym e) s (h z).1)) in cc

pub same-insert : {X : Type 0} (d : ℕ) (v : X) (es : List (ℕ × X)) → at d es ≡ None
    → SameMembers (insert_entry nat_cmp es d v) (es ++ (d, v) ∷ [])
same-insert d v [] h = same-self ((d, v) ∷ [])
same-insert d v (e ∷ es) h =
    elim (cases_order d e.0) [
      | inl k ↦ absurd (let g : None ≡ Some e.1 = sym h ∙ at-first d e es (sym k) in cc)
      | inr k ↦ elim k [
        | inl l ↦ rw (less d e.0 l) (same-turned ((d, v) ∷ []) (e ∷ es))
        | inr g ↦ let n : e.0 ≢ d = omega arith in
            rw (greater d e.0 g)
            (same-append (e ∷ []) (e ∷ []) (insert_entry nat_cmp es d v) (es ++ (d, v) ∷ [])
            (same-self (e ∷ [])) (same-insert d v es (sym (at-other d e es n) ∙ h)))
      ]
    ]
