-- The index of a key among pairs in order, and merges of such lists: for the vectors of
-- `SortedShelf`.
use Rattle.std.proofs.Common.{◌≡◌, ℕ, zero, suc, ◌+◌, ◌<◌, ◌≤◌, true, false, cond, Option, Some}
use Rattle.std.proofs.Common.{None, Result, Ok, Err, List, [], ◌∷◌, length, take, drop, find}
use Rattle.std.proofs.lemmas.Option.{slice_get_read}
use Rattle.std.proofs.Common.{get_or}
use Rattle.std.proofs.Common.{slice_get, slice_set, refl, sym, ap, ◌∙◌, subst, arith, add-one}
use Rattle.std.specs.List.{AllByRecursion, insert}
use Rattle.std.specs.List.Sorted.{IsStrictlySortedBy}
use Rattle.std.specs.Ordering.{is_gt, is_eq, is_lt, match_ordering, ordering_reverse}
use Rattle.std.specs.Option.{option_map}
use Rattle.std.specs.Cmp.{IsTotalOrder}
use Rattle.std.specs.Map.{keys_of, lookup}
use Rattle.std.specs.BTreeMap.{insert_entry, is_at}
use Rattle.std.proofs.lemmas.Map.Keys.{sorted_head, sorted_tail}
use Rattle.std.specs.declared.cmp.Ordering.{Ordering}
use Rattle.std.specs.declared.cmp.Ordering.TheVariants.{Less, Equal, Greater}
use Rattle.bufr_entries.specs.Keeping.{put_by, put_all}
use Rattle.bufr_entries.specs.Merging.{merged, weave}
use Rattle.bufr_entries.specs.KeepingLaws.{put_less, put_equal, put_greater}
use Rattle.bufr_shelves.specs.Pairs.{place_of, one_on}

-- ---- lists

pub all_weaker : {A : Type 0} (P Q : A → Type 0) → ((x : A) → P x → Q x) → (xs : List A)
    → AllByRecursion P xs → AllByRecursion Q xs
all_weaker P Q f [] a = tt
all_weaker P Q f (x ∷ xs) a = (f x a.0, all_weaker P Q f xs a.1)

all_pairs : {K V : Type 0} (P : K → Type 0) (ps : List (K × V)) → AllByRecursion P (keys_of ps)
    → AllByRecursion (λ p. P p.0) ps
all_pairs P [] a = tt
all_pairs P (p ∷ ps) a = (a.0, all_pairs P ps a.1)

all_at : {A : Type 0} (P : A → Type 0) (xs : List A) (i : ℕ) (x : A) → AllByRecursion P xs
    → slice_get xs i ≡ Some x → P x
all_at P [] i x a h = cc
all_at P (y ∷ xs) zero x a h = let e : y ≡ x = cc in subst P e a.0
all_at P (y ∷ xs) (suc i) x a h = all_at P xs i x a.1 h

all_take_more : {A : Type 0} (P : A → Type 0) (xs : List A) (i : ℕ) (x : A)
    → AllByRecursion P (take i xs) → slice_get xs i ≡ Some x → P x
    → AllByRecursion P (take (suc i) xs)
all_take_more P [] i x a h p = tt
all_take_more P (y ∷ xs) zero x a h p = let e : x ≡ y = cc in (subst P e p, tt)
all_take_more P (y ∷ xs) (suc i) x a h p = (a.0, all_take_more P xs i x a.1 h p)

all_drop_more : {A : Type 0} (P : A → Type 0) (xs : List A) (i : ℕ) (x : A)
    → AllByRecursion P (drop (suc i) xs) → slice_get xs i ≡ Some x → P x
    → AllByRecursion P (drop i xs)
all_drop_more P [] zero x a h p = tt
all_drop_more P [] (suc i) x a h p = tt
all_drop_more P (y ∷ xs) zero x a h p = let e : x ≡ y = cc in (subst P e p, a)
all_drop_more P (y ∷ xs) (suc i) x a h p = all_drop_more P xs i x a h p

-- ---- the index of a key

module _ {K V : Type 0} (c : K → Ordering) where
  pub place_between : (ps : List (K × V)) (i : ℕ) → i ≤ length ps
      → AllByRecursion (λ p. c p.0 ≡ Greater) (take i ps)
      → AllByRecursion (λ p. c p.0 ≡ Less) (drop i ps) → place_of c ps ≡ Err i
  place_between [] i le a b = let e : 0 ≡ i = omega arith in ap Err e
  place_between (p ∷ ps) zero le a b =
      ap (λ o. match_ordering o (Err 0) (Ok 0) (one_on (place_of c ps))) b.0
  place_between (p ∷ ps) (suc i) le a b =
      let rest : i ≤ length ps = omega arith in
      ap (λ o. match_ordering o (Err 0) (Ok 0) (one_on (place_of c ps))) a.0
      ∙ ap one_on (place_between ps i rest a.1 b)

  pub place_here : (ps : List (K × V)) (i : ℕ) (p : K × V) → slice_get ps i ≡ Some p
      → AllByRecursion (λ q. c q.0 ≡ Greater) (take i ps) → c p.0 ≡ Equal → place_of c ps ≡ Ok i
  place_here [] i p h a e = cc
  place_here (q ∷ ps) zero p h a e =
      let same : p ≡ q = cc in
      ap (λ o. match_ordering o (Err 0) (Ok 0) (one_on (place_of c ps)))
      (subst (λ z. c z.0 ≡ Equal) same e)
  place_here (q ∷ ps) (suc i) p h a e =
      ap (λ o. match_ordering o (Err 0) (Ok 0) (one_on (place_of c ps))) a.0
      ∙ ap one_on (place_here ps i p h a.1 e)

-- what a search by halves knows: the key is after all pairs below `low` and before all from `high`
-- on
pub record Narrowed {K V : Type 0} (c : K → Ordering) (ps : List (K × V)) (low high : ℕ)
    : Type 0 where
  pub ordered : low ≤ high
  pub within : high ≤ length ps
  pub below : AllByRecursion (λ p. c p.0 ≡ Greater) (take low ps)
  pub above : AllByRecursion (λ p. c p.0 ≡ Less) (drop high ps)

module _ {K V : Type 0} (c : K → K → Ordering) (o : IsTotalOrder c) where
  before : (ps : List (K × V)) (i : ℕ) (p : K × V) → IsStrictlySortedBy c (keys_of ps)
      → slice_get ps i ≡ Some p → AllByRecursion (λ q. c q.0 p.0 ≡ Less) (take i ps)
  before [] zero p s h = tt
  before [] (suc i) p s h = tt
  before (q ∷ ps) zero p s h = tt
  before (q ∷ ps) (suc i) p s h = (
    all_at (λ z. c q.0 z.0 ≡ Less) ps i p (all_pairs (λ z. c q.0 z ≡ Less) ps
        (sorted_head c q.0 (keys_of ps) s)) h,
    before ps i p (sorted_tail c q.0 (keys_of ps) s) h,
  )

  behind : (ps : List (K × V)) (i : ℕ) (p : K × V) → IsStrictlySortedBy c (keys_of ps)
      → slice_get ps i ≡ Some p → AllByRecursion (λ q. c p.0 q.0 ≡ Less) (drop (suc i) ps)
  behind [] i p s h = tt
  behind (q ∷ ps) zero p s h =
      let e : q ≡ p = cc in
      subst (λ z. AllByRecursion (λ r. c z.0 r.0 ≡ Less) ps) e
      (all_pairs (λ z. c q.0 z ≡ Less) ps (sorted_head c q.0 (keys_of ps) s))
  behind (q ∷ ps) (suc i) p s h = behind ps i p (sorted_tail c q.0 (keys_of ps) s) h

  pub narrow_up : (k : K) (ps : List (K × V)) (low middle high : ℕ) (p : K × V)
      → IsStrictlySortedBy c (keys_of ps) → Narrowed (c k) ps low high → middle < high →
      slice_get ps middle ≡ Some p → c k p.0 ≡ Greater → Narrowed (c k) ps (middle + 1) high
  narrow_up k ps low middle high p s n lt h g =
      let turned : c p.0 k ≡ Less = o.antisymm p.0 k ∙ ap ordering_reverse g in
      record {
        ordered = omega arith;
        within = n.within;
        below = subst (λ m. AllByRecursion (λ q. c k q.0 ≡ Greater) (take m ps))
            (sym (add-one middle))
            (all_take_more (λ q. c k q.0 ≡ Greater) ps middle p
            (all_weaker (λ q. c q.0 p.0 ≡ Less) (λ q. c k q.0 ≡ Greater)
            (λ q l. o.antisymm k q.0 ∙ ap ordering_reverse (o.trans q.0 p.0 k l turned))
            (take middle ps) (before ps middle p s h))
            h g);
        above = n.above;
      }

  pub narrow_down : (k : K) (ps : List (K × V)) (low middle high : ℕ) (p : K × V)
      → IsStrictlySortedBy c (keys_of ps) → Narrowed (c k) ps low high → low ≤ middle
      → middle < high →
      slice_get ps middle ≡ Some p → c k p.0 ≡ Less → Narrowed (c k) ps low middle
  narrow_down k ps low middle high p s n le lt h l =
      let size : high ≤ length ps = n.within in
      record {
        ordered = le;
        within = omega arith;
        below = n.below;
        above = all_drop_more (λ q. c k q.0 ≡ Less) ps middle p
            (all_weaker (λ q. c p.0 q.0 ≡ Less) (λ q. c k q.0 ≡ Less) (λ q m. o.trans k p.0 q.0 l m)
            (drop (suc middle) ps) (behind ps middle p s h)) h l;
      }

  pub place_equal : (k : K) (ps : List (K × V)) (i : ℕ) (p : K × V)
      → IsStrictlySortedBy c (keys_of ps) → slice_get ps i ≡ Some p → c k p.0 ≡ Equal
      → place_of (c k) ps ≡ Ok i
  place_equal k ps i p s h e =
      place_here (c k) ps i p h
      (all_weaker (λ q. c q.0 p.0 ≡ Less) (λ q. c k q.0 ≡ Greater)
      (λ q l. o.congr k p.0 q.0 e ∙ o.antisymm p.0 q.0 ∙ ap ordering_reverse l) (take i ps)
      (before ps i p s h))
      e

  above_head : (k : K) (q : K × V) (ps : List (K × V)) → IsStrictlySortedBy c (keys_of (q ∷ ps))
      → ((y : K) → c q.0 y ≡ Less → c k y ≡ Less) → AllByRecursion (λ p. c k p.0 ≡ Less) ps
  above_head k q ps s f =
      all_pairs (λ y. c k y ≡ Less) ps (all_weaker (λ y. c q.0 y ≡ Less) (λ y. c k y ≡ Less) f
      (keys_of ps) (sorted_head c q.0 (keys_of ps) s))

-- ---- look-ups by index

-- the pair at the index of a key
abbrev pub at_place : {A : Type 0} → Result ℕ ℕ → List A → Option A
at_place (Ok i) xs = slice_get xs i
at_place (Err i) xs = None

-- the pair after it
abbrev pub after_place : {A : Type 0} → Result ℕ ℕ → List A → Option A
after_place (Ok i) xs = slice_get xs (suc i)
after_place (Err i) xs = slice_get xs i

-- the list with a pair put in at its index
abbrev pub put_at : {A : Type 0} → Result ℕ ℕ → List A → A → List A
put_at (Ok i) xs x = slice_set xs i x
put_at (Err i) xs x = insert xs i x

at-one_on : {A : Type 0} (r : Result ℕ ℕ) (x : A) (xs : List A) → at_place (one_on r) (x ∷ xs)
    ≡ at_place r xs
at-one_on (Ok i) x xs = refl
at-one_on (Err i) x xs = refl

after-one_on : {A : Type 0} (r : Result ℕ ℕ) (x : A) (xs : List A) → after_place (one_on r) (x ∷ xs)
    ≡ after_place r xs
after-one_on (Ok i) x xs = refl
after-one_on (Err i) x xs = refl

put-one_on : {A : Type 0} (r : Result ℕ ℕ) (x : A) (xs : List A) (y : A)
    → put_at (one_on r) (x ∷ xs) y ≡ x ∷ put_at r xs y
put-one_on (Ok i) x xs y = refl
put-one_on (Err i) x xs y = refl

module _ {K V : Type 0} (c : K → K → Ordering) (o : IsTotalOrder c) where
  find-above : (k : K) (ps : List (K × V)) → AllByRecursion (λ p. c k p.0 ≡ Less) ps
      → find (λ p. is_eq (c k p.0)) ps ≡ None
  find-above k [] a = refl
  find-above k (p ∷ ps) a = ap (λ r. cond (is_eq r) (Some p) (find (λ p. is_eq (c k p.0)) ps)) a.0
      ∙ find-above k ps a.1

  next-above : (k : K) (ps : List (K × V)) → AllByRecursion (λ p. c k p.0 ≡ Less) ps
      → find (λ p. is_lt (c k p.0)) ps ≡ slice_get ps 0
  next-above k [] a = refl
  next-above k (p ∷ ps) a = ap (λ r. cond (is_lt r) (Some p) (find (λ p. is_lt (c k p.0)) ps)) a.0

  pub find-place : (k : K) (ps : List (K × V)) → IsStrictlySortedBy c (keys_of ps)
      → find (λ p. is_eq (c k p.0)) ps ≡ at_place (place_of (c k) ps) ps
  find-place k [] s = refl
  find-place k (q ∷ ps) s =
      elim (c k q.0) as (λ r. c k q.0 ≡ r → cond (is_eq (c k q.0)) (Some q)
      (find (λ p. is_eq (c k p.0)) ps) ≡ at_place
      (match_ordering (c k q.0) (Err 0) (Ok 0) (one_on (place_of (c k) ps))) (q ∷ ps)) [
        | Less ↦ λ h. rw h (find-above k ps (above_head c o k q ps s (λ y l. o.trans k q.0 y h l)))
        | Equal ↦ λ h. rw h refl
        | Greater ↦ λ h. rw h (find-place k ps (sorted_tail c q.0 (keys_of ps) s)
            ∙ sym (at-one_on (place_of (c k) ps) q ps))
      ] refl

  pub next-place : (k : K) (ps : List (K × V)) → IsStrictlySortedBy c (keys_of ps)
      → find (λ p. is_lt (c k p.0)) ps ≡ after_place (place_of (c k) ps) ps
  next-place k [] s = refl
  next-place k (q ∷ ps) s =
      elim (c k q.0) as (λ r. c k q.0 ≡ r → cond (is_lt (c k q.0)) (Some q)
      (find (λ p. is_lt (c k p.0)) ps) ≡ after_place
      (match_ordering (c k q.0) (Err 0) (Ok 0) (one_on (place_of (c k) ps))) (q ∷ ps)) [
        | Less ↦ λ h. rw h refl
        | Equal ↦ λ h. rw h
            (next-above k ps (above_head c o k q ps s (λ y l. o.congr k q.0 y h ∙ l)))
        | Greater ↦ λ h. rw h (next-place k ps (sorted_tail c q.0 (keys_of ps) s)
            ∙ sym (after-one_on (place_of (c k) ps) q ps))
      ] refl

  lookup-find : (k : K) (ps : List (K × V)) → lookup (is_at (c k)) ps
      ≡ option_map (λ p. p.1) (find (λ p. is_eq (c k p.0)) ps)
  lookup-find k [] = refl
  lookup-find k (q ∷ ps) =
      elim (is_eq (c k q.0)) as (λ b. cond b (Some q.1) (lookup (is_at (c k)) ps)
      ≡ option_map (λ p. p.1) (cond b (Some q) (find (λ p. is_eq (c k p.0)) ps)))
      [ true ↦ refl | false ↦ lookup-find k ps ]

  pub lookup_there : (k : K) (ps : List (K × V)) → IsStrictlySortedBy c (keys_of ps)
      → (i : ℕ) (p : K × V) → Ok i ≡ place_of (c k) ps → i < length ps → p ≡ get_or ps i p
      → lookup (is_at (c k)) ps ≡ Some p.1
  lookup_there k ps sorted i p place within is =
      lookup-find k ps
      ∙ ap (option_map (λ p. p.1)) (find-place k ps sorted ∙ ap (λ r. at_place r ps) (sym place)
      ∙ slice_get_read ps (length ps) i p refl within is)

  pub lookup_nowhere : (k : K) (ps : List (K × V)) → IsStrictlySortedBy c (keys_of ps) → (i : ℕ)
      → Err i ≡ place_of (c k) ps → lookup (is_at (c k)) ps ≡ None
  lookup_nowhere k ps sorted i place =
      lookup-find k ps
      ∙ ap (option_map (λ p. p.1)) (find-place k ps sorted ∙ ap (λ r. at_place r ps) (sym place))

  pub insert-place : ((x y : K) → c x y ≡ Equal → x ≡ y) → (k : K) (v : V) (ps : List (K × V))
      → insert_entry c ps k v ≡ put_at (place_of (c k) ps) ps (k, v)
  insert-place exact k v [] = refl
  insert-place exact k v (q ∷ ps) =
      elim (c k q.0) as (λ r. c k q.0 ≡ r → match_ordering (c k q.0) ((k, v) ∷ q ∷ ps)
      ((q.0, v) ∷ ps) (q ∷ insert_entry c ps k v)
      ≡ put_at (match_ordering (c k q.0) (Err 0) (Ok 0) (one_on (place_of (c k) ps))) (q ∷ ps)
      (k, v)) [
        | Less ↦ λ h. rw h refl
        | Equal ↦ λ h. rw h (ap (λ z. (z, v) ∷ ps) (sym (exact k q.0 h)))
        | Greater ↦ λ h. rw h (ap (λ z. q ∷ z) (insert-place exact k v ps)
            ∙ sym (put-one_on (place_of (c k) ps) q ps (k, v)))
      ] refl

-- ---- merging

module _ {A : Type 0} (slot rank : A → A → Ordering) where
  weave_less : (k : A) (f : List A → List A) (l : A) (ls : List A) → slot k l ≡ Less
      → weave slot rank k f (l ∷ ls) ≡ k ∷ f (l ∷ ls)
  weave_less k f l ls h = rw (h, weave) refl

  weave_equal : (k : A) (f : List A → List A) (l : A) (ls : List A) → slot k l ≡ Equal
      → weave slot rank k f (l ∷ ls) ≡ cond (is_gt (rank l k)) l k ∷ f ls
  weave_equal k f l ls h = rw (h, weave) refl

  weave_greater : (k : A) (f : List A → List A) (l : A) (ls : List A) → slot k l ≡ Greater
      → weave slot rank k f (l ∷ ls) ≡ l ∷ weave slot rank k f ls
  weave_greater k f l ls h = rw (h, weave) refl

  weave_first : (k : A) (f : List A → List A) (ls : List A)
      → AllByRecursion (λ y. slot k y ≡ Less) ls → weave slot rank k f ls ≡ k ∷ f ls
  weave_first k f [] a = refl
  weave_first k f (l ∷ ls) a = weave_less k f l ls a.0

  merged_nothing : (ks : List A) → merged slot rank ks [] ≡ ks
  merged_nothing [] = refl
  merged_nothing (k ∷ ks) = ap (λ z. k ∷ z) (merged_nothing ks)

  module _ (o : IsTotalOrder slot) where
    merged-put : (ks : List A) (l : A) (ls : List A) → AllByRecursion (λ y. slot l y ≡ Less) ls
        → merged slot rank ks (l ∷ ls) ≡ merged slot rank (put_by slot rank l ks) ls
    merged-put [] l ls a = sym (weave_first l (merged slot rank []) ls a)
    merged-put (k ∷ ks) l ls a =
        elim (slot k l) as (λ r. slot k l ≡ r → weave slot rank k (merged slot rank ks) (l ∷ ls)
        ≡ merged slot rank (put_by slot rank l (k ∷ ks)) ls) [
          | Less ↦ λ h.
              let turned : slot l k ≡ Greater = o.antisymm l k ∙ ap ordering_reverse h in
              weave_less k (merged slot rank ks) l ls h
              ∙ ap (λ z. k ∷ z) (merged-put ks l ls a)
              ∙ sym (weave_first k (merged slot rank (put_by slot rank l ks)) ls
              (all_weaker (λ y. slot l y ≡ Less) (λ y. slot k y ≡ Less)
              (λ y m. o.trans k l y h m) ls a))
              ∙ ap (λ z. merged slot rank z ls) (sym (put_greater slot rank l k ks turned))
          | Equal ↦ λ h.
              let turned : slot l k ≡ Equal = o.antisymm l k ∙ ap ordering_reverse h in
              weave_equal k (merged slot rank ks) l ls h
              ∙ sym (weave_first (cond (is_gt (rank l k)) l k) (merged slot rank ks) ls
              (elim (is_gt (rank l k)) as
              (λ b. AllByRecursion (λ y. slot (cond b l k) y ≡ Less) ls) [
                | true ↦ a
                | false ↦ all_weaker (λ y. slot l y ≡ Less) (λ y. slot k y ≡ Less)
                    (λ y m. o.congr k l y h ∙ m) ls a
              ]))
              ∙ ap (λ z. merged slot rank z ls) (sym (put_equal slot rank l k ks turned))
          | Greater ↦ λ h.
              let turned : slot l k ≡ Less = o.antisymm l k ∙ ap ordering_reverse h in
              weave_greater k (merged slot rank ks) l ls h
              ∙ sym (weave_first l (merged slot rank (k ∷ ks)) ls a)
              ∙ ap (λ z. merged slot rank z ls) (sym (put_less slot rank l k ks turned))
        ] refl

    pub merged-put_all : (ks ls : List A) → IsStrictlySortedBy slot ls → merged slot rank ks ls
        ≡ put_all slot rank ks ls
    merged-put_all ks [] s = merged_nothing ks
    merged-put_all ks (l ∷ ls) s = merged-put ks l ls (sorted_head slot l ls s)
        ∙ merged-put_all (put_by slot rank l ks) ls (sorted_tail slot l ls s)

pub sorted-pairs : {K V : Type 0} (c : K → K → Ordering) (ps : List (K × V))
    → IsStrictlySortedBy c (keys_of ps) → IsStrictlySortedBy (λ p q. c p.0 q.0) ps
unfolding IsStrictlySortedBy
sorted-pairs c [] s = tt
sorted-pairs c (p ∷ ps) s = (all_pairs (λ y. c p.0 y ≡ Less) ps s.0, sorted-pairs c ps s.1)
