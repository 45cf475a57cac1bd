-- Pairs in order of keys, put in and found: for the maps of `MapShelf`.
use Rattle.std.proofs.Common.{◌≡◌, Bool, true, false, cond, not, ◌&&◌, ◌||◌, Option, Some, None}
use Rattle.std.proofs.Common.{Result, Ok, Err, OnOk, OnErr, IfOk, IfNone, MatchResult, List, []}
use Rattle.std.proofs.Common.{◌∷◌, ◌++◌, map, find, filter, refl, sym, ap, ◌∙◌, subst}
use Rattle.std.specs.List.{list_any, AllByRecursion}
use Rattle.std.specs.List.Sorted.{IsStrictlySortedBy}
use Rattle.std.specs.Ordering.{is_gt, is_eq, match_ordering}
use Rattle.std.specs.Cmp.{IsTotalOrder}
use Rattle.std.specs.Map.{keys_of, lookup, lookup_key}
use Rattle.std.specs.Map.Iter.{TakesFirst}
use Rattle.std.specs.Option.{option_map}
use Rattle.std.specs.BTreeMap.{insert_entry, is_at}
use Rattle.std.proofs.lemmas.Map.{lookup-none}
use Rattle.std.proofs.lemmas.Map.Entries.{none_below_head}
use Rattle.std.proofs.lemmas.Map.Keys.{sorted_head, sorted_tail}
use Rattle.std.specs.declared.cmp.Ordering.{Ordering}
use Rattle.std.specs.declared.cmp.Ordering.TheVariants.{Less, Equal, Greater}
use Rattle.bufr_entries.specs.Keeping.{put_by, put_all, changes_by, first_of}
use Rattle.bufr_entries.specs.KeepingLaws.{put_less, put_equal, put_greater}
use Rattle.bufr_shelves.specs.Pairs.{by_key, by_value}

module _ {K V : Type 0} (c : K → K → Ordering) (d : V → V → Ordering) where
  pub put_all-push : (es fs : List (K × V)) (p : K × V)
      → put_all (by_key c) (by_value d) es (fs ++ p ∷ [])
      ≡ put_by (by_key c) (by_value d) p (put_all (by_key c) (by_value d) es fs)
  put_all-push es [] p = refl
  put_all-push es (f ∷ fs) p = put_all-push (put_by (by_key c) (by_value d) f es) fs p

  lookup_past : (k : K) (e : K × V) (es : List (K × V)) → is_eq (c k e.0) ≡ false
      → lookup (is_at (c k)) (e ∷ es) ≡ lookup (is_at (c k)) es
  lookup_past k e es h = rw h refl

  module _ (exact : (x y : K) → c x y ≡ Equal → x ≡ y) where
    pub put-insert : (k : K) (v : V) (es : List (K × V))
        → ((w : V) → lookup (is_at (c k)) es ≡ Some w → d v w ≡ Greater) →
        put_by (by_key c) (by_value d) (k, v) es ≡ insert_entry c es k v
    put-insert k v [] h = refl
    put-insert k v (e ∷ es) h =
        elim (c k e.0) as (λ o. c k e.0 ≡ o → put_by (by_key c) (by_value d) (k, v) (e ∷ es)
        ≡ insert_entry c (e ∷ es) k v) [
          | Less ↦ λ q. put_less (by_key c) (by_value d) (k, v) e es q
              ∙ sym (ap (λ o. match_ordering o ((k, v) ∷ e ∷ es) ((e.0, v) ∷ es)
              (e ∷ insert_entry c es k v)) q)
          | Equal ↦ λ q.
              let up : d v e.1 ≡ Greater =
              h e.1 (ap (λ o. cond (is_eq o) (Some e.1) (lookup (is_at (c k)) es)) q) in
              put_equal (by_key c) (by_value d) (k, v) e es q
              ∙ ap (λ o. cond (is_gt o) (k, v) e ∷ es) up
              ∙ ap (λ z. (z, v) ∷ es) (exact k e.0 q)
              ∙ sym (ap (λ o. match_ordering o ((k, v) ∷ e ∷ es) ((e.0, v) ∷ es)
              (e ∷ insert_entry c es k v)) q)
          | Greater ↦ λ q.
              put_greater (by_key c) (by_value d) (k, v) e es q
              ∙ ap (λ z. e ∷ z) (put-insert k v es
              (λ w l. h w (lookup_past k e es (ap is_eq q) ∙ l)))
              ∙ sym (ap (λ o. match_ordering o ((k, v) ∷ e ∷ es) ((e.0, v) ∷ es)
              (e ∷ insert_entry c es k v)) q)
        ] refl

  module _ (o : IsTotalOrder c) where
    pub put-same : (k : K) (v w : V) (es : List (K × V)) → IsStrictlySortedBy c (keys_of es)
        → lookup (is_at (c k)) es ≡ Some w → is_gt (d v w) ≡ false →
        put_by (by_key c) (by_value d) (k, v) es ≡ es
    put-same k v w [] s l h = cc
    put-same k v w (e ∷ es) s l h =
        elim (c k e.0) as (λ r. c k e.0 ≡ r → put_by (by_key c) (by_value d) (k, v) (e ∷ es)
        ≡ e ∷ es) [
          | Less ↦ λ q. let none : lookup (is_at (c k)) (e ∷ es) ≡ None =
              lookup-none (is_at (c k)) (e ∷ es) (none_below_head o k e es s q) in
              let bad : None ≡ Some w = sym none ∙ l in cc
          | Equal ↦ λ q.
              let here : Some e.1 ≡ Some w =
              sym (ap (λ r. cond (is_eq r) (Some e.1) (lookup (is_at (c k)) es)) q) ∙ l in
              let value : e.1 ≡ w = cc in
              put_equal (by_key c) (by_value d) (k, v) e es q
              ∙ ap (λ b. cond b (k, v) e ∷ es) (ap (λ z. is_gt (d v z)) value ∙ h)
          | Greater ↦ λ q. put_greater (by_key c) (by_value d) (k, v) e es q
              ∙ ap (λ z. e ∷ z) (put-same k v w es (sorted_tail c e.0 (keys_of es) s)
              (sym (lookup_past k e es (ap is_eq q)) ∙ l) h)
        ] refl

    any_above : (k : K) (v : V) (es : List (K × V))
        → AllByRecursion (λ y. c k y ≡ Less) (keys_of es)
        → list_any (λ f. is_eq (by_key c (k, v) f) && not (is_gt (by_value d (k, v) f))) es ≡ false
    any_above k v [] a = refl
    any_above k v (e ∷ es) a =
        ap (λ r. (is_eq r && not (is_gt (d v e.1))) || list_any
        (λ f. is_eq (by_key c (k, v) f) && not (is_gt (by_value d (k, v) f))) es) a.0
        ∙ any_above k v es a.1

    all_below : (k x : K) (ys : List K) → ((y : K) → c x y ≡ Less → c k y ≡ Less)
        → AllByRecursion (λ y. c x y ≡ Less) ys → AllByRecursion (λ y. c k y ≡ Less) ys
    all_below k x [] f a = tt
    all_below k x (y ∷ ys) f a = (f y a.0, all_below k x ys f a.1)

    any_new : (k : K) (v : V) (es : List (K × V)) → IsStrictlySortedBy c (keys_of es)
        → ((w : V) → lookup (is_at (c k)) es ≡ Some w → d v w ≡ Greater) →
        list_any (λ f. is_eq (by_key c (k, v) f) && not (is_gt (by_value d (k, v) f))) es ≡ false
    any_new k v [] s h = refl
    any_new k v (e ∷ es) s h =
        elim (c k e.0) as (λ r. c k e.0 ≡ r → ((is_eq (c k e.0) && not (is_gt (d v e.1))) ||
        list_any (λ f. is_eq (by_key c (k, v) f) && not (is_gt (by_value d (k, v) f))) es)
        ≡ false) [
          | Less ↦ λ q. ap (λ r. (is_eq r && not (is_gt (d v e.1))) || list_any
              (λ f. is_eq (by_key c (k, v) f) && not (is_gt (by_value d (k, v) f))) es) q
              ∙ any_above k v es (all_below k e.0 (keys_of es) (λ y l. o.trans k e.0 y q l)
              (sorted_head c e.0 (keys_of es) s))
          | Equal ↦ λ q.
              let up : d v e.1 ≡ Greater =
              h e.1 (ap (λ r. cond (is_eq r) (Some e.1) (lookup (is_at (c k)) es)) q) in
              ap (λ r. (is_eq r && not (is_gt (d v e.1))) || list_any
              (λ f. is_eq (by_key c (k, v) f) && not (is_gt (by_value d (k, v) f))) es) q
              ∙ ap (λ r. (true && not (is_gt r)) || list_any
              (λ f. is_eq (by_key c (k, v) f) && not (is_gt (by_value d (k, v) f))) es) up
              ∙ any_above k v es (all_below k e.0 (keys_of es) (λ y l. o.congr k e.0 y q ∙ l)
              (sorted_head c e.0 (keys_of es) s))
          | Greater ↦ λ q. ap (λ r. (is_eq r && not (is_gt (d v e.1))) || list_any
              (λ f. is_eq (by_key c (k, v) f) && not (is_gt (by_value d (k, v) f))) es) q
              ∙ any_new k v es (sorted_tail c e.0 (keys_of es) s)
              (λ w l. h w (lookup_past k e es (ap is_eq q) ∙ l))
        ] refl

    pub changes_new : (k : K) (v : V) (es : List (K × V)) → IsStrictlySortedBy c (keys_of es)
        → ((w : V) → lookup (is_at (c k)) es ≡ Some w → d v w ≡ Greater) →
        true ≡ changes_by (by_key c) (by_value d) es (k, v)
    changes_new k v es s h = sym (ap not (any_new k v es s h))

  any_old : (k : K) (v w : V) (es : List (K × V)) → lookup (is_at (c k)) es ≡ Some w → is_gt (d v w)
      ≡ false →
      list_any (λ f. is_eq (by_key c (k, v) f) && not (is_gt (by_value d (k, v) f))) es ≡ true
  any_old k v w [] l h = cc
  any_old k v w (e ∷ es) l h =
      elim (is_eq (c k e.0)) as (λ b. is_eq (c k e.0) ≡ b
      → ((is_eq (c k e.0) && not (is_gt (d v e.1))) || list_any
      (λ f. is_eq (by_key c (k, v) f) && not (is_gt (by_value d (k, v) f))) es) ≡ true) [
        | true ↦ λ q.
            let here : Some e.1 ≡ Some w =
            sym (ap (λ b. cond b (Some e.1) (lookup (is_at (c k)) es)) q) ∙ l in
            let value : e.1 ≡ w = cc in
            ap (λ b. (b && not (is_gt (d v e.1))) || list_any
            (λ f. is_eq (by_key c (k, v) f) && not (is_gt (by_value d (k, v) f))) es) q
            ∙ ap (λ b. not b || list_any (λ f. is_eq (by_key c (k, v) f) &&
            not (is_gt (by_value d (k, v) f))) es) (ap (λ z. is_gt (d v z)) value ∙ h)
        | false ↦ λ q. ap (λ b. (b && not (is_gt (d v e.1))) || list_any
            (λ f. is_eq (by_key c (k, v) f) && not (is_gt (by_value d (k, v) f))) es) q
            ∙ any_old k v w es (sym (lookup_past k e es q) ∙ l) h
      ] refl

  pub changes_old : (k : K) (v w : V) (es : List (K × V)) → lookup (is_at (c k)) es ≡ Some w
      → is_gt (d v w) ≡ false → false ≡ changes_by (by_key c) (by_value d) es (k, v)
  changes_old k v w es l h = sym (ap not (any_old k v w es l h))

-- ---- the first that passes a test

pub find-filter : {A : Type 0} (p q : A → Bool) → ((x : A) → q x ≡ p x) → (xs : List A)
    → first_of (filter q xs) ≡ find p xs
find-filter p q same [] = refl
find-filter p q same (x ∷ xs) =
    rw (same x)
    (elim (p x) as (λ b. first_of (cond b (x ∷ filter q xs) (filter q xs))
    ≡ cond b (Some x) (find p xs)) [ true ↦ refl | false ↦ find-filter p q same xs ])

pub find-lookup : {A K V : Type 0} (c : K → Ordering) (f : A → K) (h : A → V) (es : List (K × V))
    (r : Option A) →
    option_map f r ≡ lookup_key (is_at c) es → option_map h r ≡ lookup (is_at c) es
    → option_map (λ x. (f x, h x)) r ≡ find (λ p. is_eq (c p.0)) es
find-lookup c f h [] None a b = refl
find-lookup c f h [] (Some x) a b = cc
find-lookup {A} {K} {V} c f h (e ∷ es) r a b =
    elim (is_eq (c e.0)) as (λ t. option_map f r ≡ cond t (Some e.0) (lookup_key (is_at c) es)
    → option_map h r ≡ cond t (Some e.1) (lookup (is_at c) es) → option_map (λ x. (f x, h x)) r
    ≡ cond t (Some e) (find (λ p. is_eq (c p.0)) es)) [
      | true ↦ λ a b. elim r as (λ r. option_map f r ≡ Some e.0 → option_map h r ≡ Some e.1
          → option_map (λ x. (f x, h x)) r ≡ Some e) [
            | None ↦ λ a b. cc
            | Some x ↦ λ a b. let one : f x ≡ e.0 = cc in let two : h x ≡ e.1 = cc in
                ap (λ z. Some (z, h x)) one ∙ ap (λ z. Some (e.0, z)) two
          ] a b
      | false ↦ λ a b. find-lookup c f h es r a b
    ] a b

pub first-taken : {A X : Type 0} (shows : A → X) (s t : List X) (r : Option A)
    → TakesFirst shows s r t → option_map shows r ≡ first_of s
first-taken shows s t None h = sym (ap first_of h.0)
first-taken shows s t (Some x) h = sym (ap first_of h)

pub and-true : (b : Bool) → (b && true) ≡ b
and-true true = refl
and-true false = refl

pub gt-is : (o : Ordering) → is_gt o ≡ true → o ≡ Greater
gt-is Less h = cc
gt-is Equal h = cc
gt-is Greater h = refl

pub from_result : {A E : Type 0} (r : Result A E) (P Q R : Type 0) → (P → R) → (Q → R) → OnOk r P
    → OnErr r Q → R
from_result (Ok a) P Q R f g p q = f p
from_result (Err e) P Q R f g p q = g q

pub on_ok : {A E : Type 0} (r : Result A E) (P Q : Type 0) → (P → Q) → OnOk r P → OnOk r Q
on_ok (Ok a) P Q f p = f p
on_ok (Err e) P Q f p = p

pub if_ok : {A E : Type 0} (r : Result A E) (P Q : A → Type 0) → ((a : A) → P a → Q a) → IfOk r P
    → IfOk r Q
if_ok (Ok a) P Q f p = f a p
if_ok (Err e) P Q f p = p

pub from_match : {A E : Type 0} (r : Result A E) (P Q : A → Type 0) (F : E → Type 0)
    → ((a : A) → P a → Q a) → MatchResult r P F → IfOk r Q
from_match (Ok a) P Q F f p = f a p
from_match (Err e) P Q F f p = tt

pub map-push : {A B : Type 0} (f : A → B) (xs : List A) (x : A) → map f (xs ++ x ∷ [])
    ≡ map f xs ++ f x ∷ []
map-push f [] x = refl
map-push f (y ∷ xs) x = ap (λ z. f y ∷ z) (map-push f xs x)

pub only-value : {V : Type 0} (r : Option V) (old : V) (P : V → Type 0) → Some old ≡ r → P old
    → (w : V) → r ≡ Some w → P w
only-value r old P is p w h = let same : Some old ≡ Some w = is ∙ h in let e : old ≡ w = cc in
    subst P e p

pub no-value : {V : Type 0} (r : Option V) (P : V → Type 0) → None ≡ r → (w : V) → r ≡ Some w → P w
no-value r P is w h = let same : None ≡ Some w = is ∙ h in cc

pub if-none : {A : Type 0} (r : Option A) (P : Type 0) → r ≡ None → IfNone r P → P
if-none None P is p = p
if-none (Some x) P is p = cc
