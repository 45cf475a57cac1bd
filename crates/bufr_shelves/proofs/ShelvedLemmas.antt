-- Entries as pairs with and without a key, put in, found and kept: for both shelves.
use Rattle.std.proofs.Common.{◌≡◌, ℕ, true, false, cond, not, ◌&&◌, ◌||◌, Some, None, List, [], ◌∷◌}
use Rattle.std.proofs.Common.{◌++◌, map, find, refl, sym, ap, ◌∙◌, subst, append_assoc}
use Rattle.std.proofs.lemmas.List.{append-nil}
use Rattle.std.specs.Option.{option_map}
use Rattle.std.specs.List.{list_any, AllByRecursion}
use Rattle.std.specs.List.Sorted.{IsStrictlySortedBy}
use Rattle.std.specs.Map.{keys_of}
use Rattle.std.specs.Ordering.{nat_cmp, ordering_then, is_gt, is_eq, is_lt}
use Rattle.std.specs.Cmp.Lexicographic.{slice_cmp}
use Rattle.std.specs.declared.cmp.Ordering.{Ordering}
use Rattle.std.specs.declared.cmp.Ordering.TheVariants.{Less, Equal, Greater}
use Rattle.bufr_entries.specs.Keeping.{put_by, put_all, changes_by, first_of}
use Rattle.bufr_entries.specs.KeepingLaws.{put_less, put_equal, put_greater}
use Rattle.bufr_entries.specs.KeyOrders.{octets_cmp, key_cmp}
use Rattle.bufr_entries.specs.Entries.{slot_by, slot_cmp, rank_cmp, kept}
use Rattle.bufr_entries.specs.Entries.{changes, entry_at, entry_after}
use Rattle.bufr_entries.specs.Orders.{kept-swap, kept-early, kept-late, kept-kept, kept-are}
use Rattle.bufr_entries.specs.Orders.{then-Equal}
use Rattle.bufr_entries.specs.DerivedOrders.{key_order}
use Rattle.bufr_shelves.specs.Ranks.{rank_order}
use Rattle.bufr_entries.specs.DerivedOrders.{keys_are}
use Rattle.bufr_shelves.specs.Pairs.{by_key, by_value, with_key, without_key, shelved}
use Rattle.bufr_entries.specs.declared.key.Key.{Key}
use Rattle.bufr_shelves.specs.declared.rank.Rank.{Rank}
use Rattle.bufr_entries.specs.declared.entry.Entry.{Entry}

-- puts a pair among those with a key
abbrev pub put_keyed : Key × Rank → List (Key × Rank) → List (Key × Rank)
put_keyed p ks = put_by (by_key key_order) (by_value rank_order) p ks

-- puts a pair among those without a key
abbrev pub put_unkeyed : List ℕ × ℕ → List (List ℕ × ℕ) → List (List ℕ × ℕ)
put_unkeyed q us = put_by (by_key (slice_cmp nat_cmp)) (by_value nat_cmp) q us

-- ---- one entry put in

pub put-keyed : (p : Key × Rank) (ks : List (Key × Rank)) (us : List (List ℕ × ℕ)) →
    put_by slot_cmp rank_cmp (with_key p) (shelved ks us) ≡ shelved (put_keyed p ks) us
put-keyed p [] [] = refl
put-keyed p [] (u ∷ us) = refl
put-keyed p (k ∷ ks) us =
    elim (key_order p.0 k.0) as (λ o. key_order p.0 k.0 ≡ o
    → put_by slot_cmp rank_cmp (with_key p) (shelved (k ∷ ks) us)
    ≡ shelved (put_keyed p (k ∷ ks)) us) [
      | Less ↦ λ h. put_less slot_cmp rank_cmp (with_key p) (with_key k) (shelved ks us)
          (sym (keys_are p.0 k.0) ∙ h)
          ∙ sym (ap (λ ls. shelved ls us) (put_less (by_key key_order) (by_value rank_order) p
          k ks h))
      | Equal ↦ λ h. put_equal slot_cmp rank_cmp (with_key p) (with_key k) (shelved ks us)
          (sym (keys_are p.0 k.0) ∙ h)
          ∙ (elim (is_gt (rank_order p.1 k.1)) as (λ b. cond b (with_key p) (with_key k) ∷ shelved
          ks us ≡ shelved (cond b p k ∷ ks) us) [ true ↦ refl | false ↦ refl ])
          ∙ sym (ap (λ ls. shelved ls us) (put_equal (by_key key_order) (by_value rank_order) p
          k ks h))
      | Greater ↦ λ h. put_greater slot_cmp rank_cmp (with_key p) (with_key k) (shelved ks us)
          (sym (keys_are p.0 k.0) ∙ h)
          ∙ ap (λ es. with_key k ∷ es) (put-keyed p ks us)
          ∙ sym (ap (λ ls. shelved ls us) (put_greater (by_key key_order) (by_value rank_order) p
          k ks h))
    ] refl

same_rank : (q u : List ℕ × ℕ) → octets_cmp q.0 u.0 ≡ Equal
    → rank_cmp (without_key q) (without_key u) ≡ nat_cmp q.1 u.1
same_rank q u h = ap (ordering_then (nat_cmp q.1 u.1)) h ∙ then-Equal (nat_cmp q.1 u.1)

put-octets : (q : List ℕ × ℕ) (us : List (List ℕ × ℕ)) →
    put_by slot_cmp rank_cmp (without_key q) (map without_key us)
    ≡ map without_key (put_unkeyed q us)
put-octets q [] = refl
put-octets q (u ∷ us) =
    elim (octets_cmp q.0 u.0) as (λ o. octets_cmp q.0 u.0 ≡ o
    → put_by slot_cmp rank_cmp (without_key q) (map without_key (u ∷ us))
    ≡ map without_key (put_unkeyed q (u ∷ us))) [
      | Less ↦ λ h. put_less slot_cmp rank_cmp (without_key q) (without_key u)
          (map without_key us) h
          ∙ sym (ap (map without_key) (put_less (by_key (slice_cmp nat_cmp)) (by_value nat_cmp) q
          u us h))
      | Equal ↦ λ h. put_equal slot_cmp rank_cmp (without_key q) (without_key u)
          (map without_key us) h
          ∙ ap (λ o. cond (is_gt o) (without_key q) (without_key u) ∷ map without_key us)
          (same_rank q u h)
          ∙ (elim (is_gt (nat_cmp q.1 u.1)) as (λ b. cond b (without_key q) (without_key u)
          ∷ map without_key us ≡ map without_key (cond b q u ∷ us))
          [ true ↦ refl | false ↦ refl ])
          ∙ sym (ap (map without_key) (put_equal (by_key (slice_cmp nat_cmp)) (by_value nat_cmp) q
          u us h))
      | Greater ↦ λ h. put_greater slot_cmp rank_cmp (without_key q) (without_key u)
          (map without_key us) h
          ∙ ap (λ es. without_key u ∷ es) (put-octets q us)
          ∙ sym (ap (map without_key) (put_greater (by_key (slice_cmp nat_cmp)) (by_value nat_cmp) q
          u us h))
    ] refl

pub put-unkeyed : (q : List ℕ × ℕ) (ks : List (Key × Rank)) (us : List (List ℕ × ℕ)) →
    put_by slot_cmp rank_cmp (without_key q) (shelved ks us) ≡ shelved ks (put_unkeyed q us)
put-unkeyed q [] us = put-octets q us
put-unkeyed q (k ∷ ks) us = ap (λ es. with_key k ∷ es) (put-unkeyed q ks us)

-- ---- several

pub put_all-append : (ks es fs : List Entry) → put_all slot_cmp rank_cmp ks (es ++ fs)
    ≡ put_all slot_cmp rank_cmp (put_all slot_cmp rank_cmp ks es) fs
put_all-append ks [] fs = refl
put_all-append ks (e ∷ es) fs = put_all-append (put_by slot_cmp rank_cmp e ks) es fs

put_all-keyed : (ls ks : List (Key × Rank)) (us : List (List ℕ × ℕ)) →
    put_all slot_cmp rank_cmp (shelved ks us) (map with_key ls)
    ≡ shelved (put_all (by_key key_order) (by_value rank_order) ks ls) us
put_all-keyed [] ks us = refl
put_all-keyed (l ∷ ls) ks us =
    ap (λ es. put_all slot_cmp rank_cmp es (map with_key ls)) (put-keyed l ks us)
    ∙ put_all-keyed ls (put_keyed l ks) us

put_all-unkeyed : (vs : List (List ℕ × ℕ)) (ks : List (Key × Rank)) (us : List (List ℕ × ℕ)) →
    put_all slot_cmp rank_cmp (shelved ks us) (map without_key vs)
    ≡ shelved ks (put_all (by_key (slice_cmp nat_cmp)) (by_value nat_cmp) us vs)
put_all-unkeyed [] ks us = refl
put_all-unkeyed (v ∷ vs) ks us =
    ap (λ es. put_all slot_cmp rank_cmp es (map without_key vs)) (put-unkeyed v ks us)
    ∙ put_all-unkeyed vs ks (put_unkeyed v us)

pub put_all-shelved : (ks ls : List (Key × Rank)) (us vs : List (List ℕ × ℕ)) →
    put_all slot_cmp rank_cmp (shelved ks us) (shelved ls vs)
    ≡ shelved (put_all (by_key key_order) (by_value rank_order) ks ls)
    (put_all (by_key (slice_cmp nat_cmp)) (by_value nat_cmp) us vs)
put_all-shelved ks ls us vs =
    put_all-append (shelved ks us) (map with_key ls) (map without_key vs)
    ∙ ap (λ es. put_all slot_cmp rank_cmp es (map without_key vs)) (put_all-keyed ls ks us)
    ∙ put_all-unkeyed vs (put_all (by_key key_order) (by_value rank_order) ks ls) us

-- ---- what is kept

pub kept-put : (es : List Entry) (e : Entry) → kept es ≡ es → put_by slot_cmp rank_cmp e es
    ≡ kept (es ++ e ∷ [])
kept-put es e h = ap (put_by slot_cmp rank_cmp e) (sym h) ∙ kept-swap (e ∷ []) es

pub kept-put_all : (es fs : List Entry) → kept es ≡ es → put_all slot_cmp rank_cmp es fs
    ≡ kept (es ++ fs)
kept-put_all es [] h = sym (ap kept (append-nil es) ∙ h)
kept-put_all es (f ∷ fs) h =
    ap (λ ks. put_all slot_cmp rank_cmp ks fs) (kept-put es f h)
    ∙ kept-put_all (kept (es ++ f ∷ [])) fs (kept-kept (es ++ f ∷ []))
    ∙ kept-early (es ++ f ∷ []) fs
    ∙ ap kept (append_assoc es (f ∷ []) fs)

-- ---- whether one entry changes what is kept

any-keyed : (p : Key × Rank) (ks : List (Key × Rank)) (us : List (List ℕ × ℕ)) →
    list_any (λ f. is_eq (slot_cmp (with_key p) f) && not (is_gt (rank_cmp (with_key p) f)))
    (shelved ks us)
    ≡ list_any (λ f. is_eq (by_key key_order p f) && not (is_gt (by_value rank_order p f))) ks
any-keyed p [] [] = refl
any-keyed p [] (u ∷ us) = any-keyed p [] us
any-keyed p (k ∷ ks) us =
    ap (λ b. (is_eq (key_cmp p.0 k.0) && not (is_gt (rank_order p.1 k.1))) || b) (any-keyed p ks us)
    ∙ ap (λ o. (is_eq o && not (is_gt (rank_order p.1 k.1))) || list_any
    (λ f. is_eq (by_key key_order p f) && not (is_gt (by_value rank_order p f))) ks)
    (sym (keys_are p.0 k.0))

pub changes-keyed : (p : Key × Rank) (ks : List (Key × Rank)) (us : List (List ℕ × ℕ)) →
    changes_by (by_key key_order) (by_value rank_order) ks p ≡ changes (shelved ks us) (with_key p)
changes-keyed p ks us = ap not (sym (any-keyed p ks us))

tests : (o : Ordering) (m : Ordering) → (is_eq o && not (is_gt (ordering_then m o)))
    ≡ (is_eq o && not (is_gt m))
tests Less m = refl
tests Equal m = ap (λ z. not (is_gt z)) (then-Equal m)
tests Greater m = refl

any-octets : (q : List ℕ × ℕ) (us : List (List ℕ × ℕ)) →
    list_any (λ f. is_eq (slot_cmp (without_key q) f) && not (is_gt (rank_cmp (without_key q) f)))
    (map without_key us)
    ≡ list_any (λ f. is_eq (by_key (slice_cmp nat_cmp) q f) &&
    not (is_gt (by_value nat_cmp q f))) us
any-octets q [] = refl
any-octets q (u ∷ us) =
    ap (λ b. (is_eq (octets_cmp q.0 u.0) && not (is_gt
    (ordering_then (nat_cmp q.1 u.1) (octets_cmp q.0 u.0)))) || b) (any-octets q us)
    ∙ ap (λ b. b || list_any (λ f. is_eq (by_key (slice_cmp nat_cmp) q f) &&
    not (is_gt (by_value nat_cmp q f))) us) (tests (octets_cmp q.0 u.0) (nat_cmp q.1 u.1))

any-unkeyed : (q : List ℕ × ℕ) (ks : List (Key × Rank)) (us : List (List ℕ × ℕ)) →
    list_any (λ f. is_eq (slot_cmp (without_key q) f) && not (is_gt (rank_cmp (without_key q) f)))
    (shelved ks us)
    ≡ list_any (λ f. is_eq (by_key (slice_cmp nat_cmp) q f) &&
    not (is_gt (by_value nat_cmp q f))) us
any-unkeyed q [] us = any-octets q us
any-unkeyed q (k ∷ ks) us = any-unkeyed q ks us

pub changes-unkeyed : (q : List ℕ × ℕ) (ks : List (Key × Rank)) (us : List (List ℕ × ℕ)) →
    changes_by (by_key (slice_cmp nat_cmp)) (by_value nat_cmp) us q
    ≡ changes (shelved ks us) (without_key q)
changes-unkeyed q ks us = ap not (sym (any-unkeyed q ks us))

-- ---- what a shelf holds after a call

-- the pairs are entries in order of slots, one of each
abbrev pub IsKept : List (Key × Rank) → List (List ℕ × ℕ) → Type 0
IsKept ks us = kept (shelved ks us) ≡ shelved ks us

pub kept-of : (es fs : List Entry) → es ≡ kept fs → kept es ≡ es
kept-of es fs h = ap kept h ∙ kept-kept fs ∙ sym h

pub shelved-keyed : (p : Key × Rank) (ks : List (Key × Rank)) (us : List (List ℕ × ℕ))
    → IsKept ks us →
    shelved (put_keyed p ks) us ≡ kept (shelved ks us ++ with_key p ∷ [])
shelved-keyed p ks us h = sym (put-keyed p ks us) ∙ kept-put (shelved ks us) (with_key p) h

pub shelved-unkeyed : (q : List ℕ × ℕ) (ks : List (Key × Rank)) (us : List (List ℕ × ℕ))
    → IsKept ks us →
    shelved ks (put_unkeyed q us) ≡ kept (shelved ks us ++ without_key q ∷ [])
shelved-unkeyed q ks us h = sym (put-unkeyed q ks us) ∙ kept-put (shelved ks us) (without_key q) h

pub shelved-all : (ks ls : List (Key × Rank)) (us vs : List (List ℕ × ℕ)) → IsKept ks us →
    shelved (put_all (by_key key_order) (by_value rank_order) ks ls)
    (put_all (by_key (slice_cmp nat_cmp)) (by_value nat_cmp) us vs)
    ≡ kept (shelved ks us ++ shelved ls vs)
shelved-all ks ls us vs h = sym (put_all-shelved ks ls us vs)
    ∙ kept-put_all (shelved ks us) (shelved ls vs) h

pub entries-are : (now view : List Entry) → view ≡ now → kept view ≡ view → kept now ≡ view
entries-are now view is h = ap kept (sym is) ∙ h

pub entries-put : (now view new : List Entry) (e : Entry) → view ≡ now → new ≡ kept (view ++ e ∷ [])
    → kept new ≡ kept (kept now ++ e ∷ [])
entries-put now view new e is h = kept-of new (view ++ e ∷ []) h ∙ h
    ∙ ap (λ es. kept (es ++ e ∷ [])) is ∙ sym (kept-early now (e ∷ []))

pub entries-join : (now view more other new : List Entry) → view ≡ now → more ≡ other → new
    ≡ kept (view ++ more) → kept new ≡ kept (kept now ++ kept other)
entries-join now view more other new is other_is h =
    kept-of new (view ++ more) h ∙ h ∙ ap (λ es. kept (es ++ more)) is
    ∙ ap (λ es. kept (now ++ es)) other_is
    ∙ sym (kept-late now other) ∙ sym (kept-early now (kept other))

-- ---- what is looked up

at-octets : (key : Key) (us : List (List ℕ × ℕ)) → entry_at (map without_key us) key ≡ None
at-octets key [] = refl
at-octets key (u ∷ us) = at-octets key us

pub at-shelved : (key : Key) (ks : List (Key × Rank)) (us : List (List ℕ × ℕ)) →
    option_map with_key (find (λ p. is_eq (key_order key p.0)) ks) ≡ entry_at (shelved ks us) key
at-shelved key [] us = sym (at-octets key us)
at-shelved key (k ∷ ks) us =
    elim (is_eq (key_order key k.0)) as (λ b. is_eq (key_order key k.0) ≡ b
    → option_map with_key (find (λ p. is_eq (key_order key p.0)) (k ∷ ks))
    ≡ entry_at (shelved (k ∷ ks) us) key) [
      | true ↦ λ h. ap (λ b. option_map with_key
          (cond b (Some k) (find (λ p. is_eq (key_order key p.0)) ks))) h
          ∙ sym (ap (λ b. cond b (Some (with_key k)) (entry_at (shelved ks us) key))
          (ap is_eq (sym (keys_are key k.0)) ∙ h))
      | false ↦ λ h. ap (λ b. option_map with_key
          (cond b (Some k) (find (λ p. is_eq (key_order key p.0)) ks))) h
          ∙ at-shelved key ks us
          ∙ sym (ap (λ b. cond b (Some (with_key k)) (entry_at (shelved ks us) key))
          (ap is_eq (sym (keys_are key k.0)) ∙ h))
    ] refl

after-octets : (us : List (List ℕ × ℕ)) (e : Entry) (key : Key) → e.key ≡ Some key
    → option_map without_key (first_of us) ≡ entry_after (map without_key us) e
after-octets [] e key h = refl
after-octets (u ∷ us) e key h =
    sym (ap (λ o. cond (is_lt (slot_by o None (octets_cmp e.bytes u.0))) (Some (without_key u))
    (entry_after (map without_key us) e)) h)

after_step : (k : Key × Rank) (ks : List (Key × Rank)) (us : List (List ℕ × ℕ)) (e : Entry)
    (key : Key) → e.key ≡ Some key →
    entry_after (shelved (k ∷ ks) us) e ≡ cond (is_lt (key_order key k.0)) (Some (with_key k))
    (entry_after (shelved ks us) e)
after_step k ks us e key h =
    ap (λ o. cond (is_lt (slot_by o (Some k.0) (octets_cmp e.bytes k.1.bytes))) (Some (with_key k))
    (entry_after (shelved ks us) e)) h
    ∙ ap (λ o. cond (is_lt o) (Some (with_key k)) (entry_after (shelved ks us) e))
    (sym (keys_are key k.0))

pub after-keyed : (ks : List (Key × Rank)) (us : List (List ℕ × ℕ)) (e : Entry) (key : Key) → e.key
    ≡ Some key → (f : Entry) →
    Some f ≡ option_map with_key (find (λ p. is_lt (key_order key p.0)) ks) → Some f
    ≡ entry_after (shelved ks us) e
after-keyed [] us e key h f found = cc
after-keyed (k ∷ ks) us e key h f found =
    (elim (is_lt (key_order key k.0)) as (λ b. Some f
    ≡ option_map with_key (cond b (Some k) (find (λ p. is_lt (key_order key p.0)) ks)) → Some f
    ≡ cond b (Some (with_key k)) (entry_after (shelved ks us) e)) [
      | true ↦ λ q. q
      | false ↦ λ q. after-keyed ks us e key h f q
    ] found)
    ∙ sym (after_step k ks us e key h)

pub after-last-key : (ks : List (Key × Rank)) (us : List (List ℕ × ℕ)) (e : Entry) (key : Key)
    → e.key ≡ Some key →
    None ≡ option_map with_key (find (λ p. is_lt (key_order key p.0)) ks)
    → option_map without_key (first_of us) ≡ entry_after (shelved ks us) e
after-last-key [] us e key h none = after-octets us e key h
after-last-key (k ∷ ks) us e key h none =
    (elim (is_lt (key_order key k.0)) as (λ b. None
    ≡ option_map with_key (cond b (Some k) (find (λ p. is_lt (key_order key p.0)) ks))
    → option_map without_key (first_of us)
    ≡ cond b (Some (with_key k)) (entry_after (shelved ks us) e)) [
      | true ↦ λ q. cc
      | false ↦ λ q. after-last-key ks us e key h q
    ] none)
    ∙ sym (after_step k ks us e key h)

after-only-octets : (us : List (List ℕ × ℕ)) (e : Entry) → e.key ≡ None →
    option_map without_key (find (λ p. is_lt (slice_cmp nat_cmp e.bytes p.0)) us)
    ≡ entry_after (map without_key us) e
after-only-octets [] e h = refl
after-only-octets (u ∷ us) e h =
    (elim (is_lt (octets_cmp e.bytes u.0)) as (λ b. option_map without_key
    (cond b (Some u) (find (λ p. is_lt (slice_cmp nat_cmp e.bytes p.0)) us))
    ≡ cond b (Some (without_key u)) (entry_after (map without_key us) e)) [
      | true ↦ refl
      | false ↦ after-only-octets us e h
    ])
    ∙ sym (ap (λ o. cond (is_lt (slot_by o None (octets_cmp e.bytes u.0))) (Some (without_key u))
    (entry_after (map without_key us) e)) h)

pub after-unkeyed : (ks : List (Key × Rank)) (us : List (List ℕ × ℕ)) (e : Entry) → e.key ≡ None →
    option_map without_key (find (λ p. is_lt (slice_cmp nat_cmp e.bytes p.0)) us)
    ≡ entry_after (shelved ks us) e
after-unkeyed [] us e h = after-only-octets us e h
after-unkeyed (k ∷ ks) us e h =
    after-unkeyed ks us e h
    ∙ sym (ap (λ o. cond (is_lt (slot_by o (Some k.0) (octets_cmp e.bytes k.1.bytes)))
    (Some (with_key k)) (entry_after (shelved ks us) e)) h)

-- ---- the pairs of what is kept are in order

sorted-shelved : (ks : List (Key × Rank)) (us : List (List ℕ × ℕ)) → IsKept ks us
    → IsStrictlySortedBy slot_cmp (shelved ks us)
sorted-shelved ks us h = subst (IsStrictlySortedBy slot_cmp) h ((kept-are (shelved ks us)).ordered)

all-keyed : (p : Key × Rank) (ks : List (Key × Rank)) (us : List (List ℕ × ℕ))
    → AllByRecursion (λ e. slot_cmp (with_key p) e ≡ Less) (shelved ks us)
    → AllByRecursion (λ k. key_order p.0 k ≡ Less) (keys_of ks)
all-keyed p [] us a = tt
all-keyed p (k ∷ ks) us a = (keys_are p.0 k.0 ∙ a.0, all-keyed p ks us a.1)

keyed-in-order : (ks : List (Key × Rank)) (us : List (List ℕ × ℕ))
    → IsStrictlySortedBy slot_cmp (shelved ks us) → IsStrictlySortedBy key_order (keys_of ks)
unfolding IsStrictlySortedBy
keyed-in-order [] us s = tt
keyed-in-order (k ∷ ks) us s = (all-keyed k ks us s.0, keyed-in-order ks us s.1)

all-octets : (q : List ℕ × ℕ) (us : List (List ℕ × ℕ))
    → AllByRecursion (λ e. slot_cmp (without_key q) e ≡ Less) (map without_key us)
    → AllByRecursion (λ k. slice_cmp nat_cmp q.0 k ≡ Less) (keys_of us)
all-octets q [] a = tt
all-octets q (u ∷ us) a = (a.0, all-octets q us a.1)

octets-in-order : (us : List (List ℕ × ℕ)) → IsStrictlySortedBy slot_cmp (map without_key us)
    → IsStrictlySortedBy (slice_cmp nat_cmp) (keys_of us)
unfolding IsStrictlySortedBy
octets-in-order [] s = tt
octets-in-order (u ∷ us) s = (all-octets u us s.0, octets-in-order us s.1)

unkeyed-in-order : (ks : List (Key × Rank)) (us : List (List ℕ × ℕ))
    → IsStrictlySortedBy slot_cmp (shelved ks us)
    → IsStrictlySortedBy (slice_cmp nat_cmp) (keys_of us)
unfolding IsStrictlySortedBy
unkeyed-in-order [] us s = octets-in-order us s
unkeyed-in-order (k ∷ ks) us s = unkeyed-in-order ks us s.1

pub sorted-keyed : (ks : List (Key × Rank)) (us : List (List ℕ × ℕ)) → IsKept ks us
    → IsStrictlySortedBy key_order (keys_of ks)
sorted-keyed ks us h = keyed-in-order ks us (sorted-shelved ks us h)

pub sorted-unkeyed : (ks : List (Key × Rank)) (us : List (List ℕ × ℕ)) → IsKept ks us
    → IsStrictlySortedBy (slice_cmp nat_cmp) (keys_of us)
sorted-unkeyed ks us h = unkeyed-in-order ks us (sorted-shelved ks us h)
