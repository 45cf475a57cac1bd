-- Laws of entries in ascending order, for all who make or search tables.
use Rattle.std.proofs.Common.{◌≡◌, ℕ, ◌<◌, ◌==◌, List, [], ◌∷◌, refl, arith, inl, inr}
use Rattle.std.proofs.lemmas.Bool.{cases_order}
use Rattle.std.proofs.lemmas.Bool.Decides.{nat_tests}
use Rattle.std.specs.declared.cmp.Ordering.TheVariants.{Less, Equal, Greater}
use Rattle.std.specs.Ordering.{is_eq, nat_cmp}
use Rattle.std.specs.BTreeMap.{insert_entry, is_at}
use Rattle.std.specs.Map.{lookup}
use Rattle.bufr_tables.specs.Entries.{at, Rising}

-- the order of two numbers is `Equal` exactly if they are equal
pub is_eq-nat_cmp : (d k : ℕ) → is_eq (nat_cmp d k) ≡ (k == d)
is_eq-nat_cmp d k = grind (arith, nat_tests)

-- `at` finds what a map of these entries finds
pub at-lookup : {X : Type 0} (d : ℕ) (es : List (ℕ × X)) → at d es ≡ lookup (is_at (nat_cmp d)) es
unfolding at
at-lookup d [] = refl
at-lookup d (e ∷ es) = rw (is_eq-nat_cmp d e.0, at-lookup d es)

-- a smaller number compares as `Less`
pub less : (x y : ℕ) → x < y → nat_cmp x y ≡ Less
less x y h = grind (arith, nat_tests)

-- equal numbers compare as `Equal`
pub equal : (x y : ℕ) → x ≡ y → nat_cmp x y ≡ Equal
equal x y h = grind (arith, nat_tests)

-- a greater number compares as `Greater`
pub greater : (x y : ℕ) → y < x → nat_cmp x y ≡ Greater
greater x y h = grind (arith, nat_tests)

-- the first descriptor of the list, if any, is above d
Above : {X : Type 0} → ℕ → List (ℕ × X) → Type 0
Above d [] = Unit {0}
Above d (e ∷ es) = d < e.0

-- in ascending order the second entry is above the first
rising-first : {X : Type 0} (a : ℕ × X) (es : List (ℕ × X)) → Rising (a ∷ es) → Above a.0 es
unfolding Above
rising-first a [] r = tt
rising-first a (b ∷ es) r = r.0

-- the rest of an ascending list ascends
pub rising-rest : {X : Type 0} (a : ℕ × X) (es : List (ℕ × X)) → Rising (a ∷ es) → Rising es
rising-rest a [] r = tt
rising-rest a (b ∷ es) r = r.1

-- an ascending list with a smaller entry before it ascends
rising-join : {X : Type 0} (a : ℕ × X) (es : List (ℕ × X)) → Above a.0 es → Rising es
    → Rising (a ∷ es)
unfolding Above
rising-join a [] h r = tt
rising-join a (b ∷ es) h r = (h, r)

-- inserting a greater entry leaves the first entry above b
above-insert : {X : Type 0} (b d : ℕ) (v : X) (es : List (ℕ × X)) → b < d → Above b es
    → Above b (insert_entry nat_cmp es d v)
unfolding Above
above-insert b d v [] h a = h
above-insert b d v (e ∷ es) h a =
    elim (cases_order d e.0) [
      | inl k ↦ rw (equal d e.0 k) a
      | inr k ↦ elim k [ inl l ↦ rw (less d e.0 l) h | inr g ↦ rw (greater d e.0 g) a ]
    ]

-- an insertion keeps the order
pub Rising-insert : {X : Type 0} (d : ℕ) (v : X) (es : List (ℕ × X)) → Rising es
    → Rising (insert_entry nat_cmp es d v)
Rising-insert d v [] r = tt
Rising-insert d v (e ∷ es) r =
    let more = Rising-insert d v es (rising-rest e es r) in
    elim (cases_order d e.0) [
      | inl k ↦
          rw (equal d e.0 k) (rising-join (e.0, v) es (rising-first e es r) (rising-rest e es r))
      | inr k ↦ elim k [
        | inl l ↦ rw (less d e.0 l) (l, r)
        | inr g ↦
            rw (greater d e.0 g)
            (rising-join e (insert_entry nat_cmp es d v)
            (above-insert e.0 d v es g (rising-first e es r)) more)
      ]
    ]
