-- Entries in pages and in batches, and what is kept of both, step by step: for `ShelfBuilder`.
use Rattle.std.proofs.Common.{◌≡◌, ℕ, zero, suc, ◌+◌, ◌*◌, ◌<◌, ◌≤◌, inl, inr, Bool, true, false, cond, Option, Some}
use Rattle.std.proofs.Common.{None, List, [], ◌∷◌, ◌++◌, length, take, drop}
use Rattle.std.proofs.Common.{map, reverse, get_or, slice_index_or, refl, sym}
use Rattle.std.proofs.Common.{ap, ◌∙◌, subst, arith, append_assoc, length-append, length-drop, drop-drop}
use Rattle.std.proofs.lemmas.List.{append-nil, map-append, reverse-append, take-append-le, drop-append-le}
use Rattle.std.proofs.lemmas.List.{take_all, nil_from_length, reverse-reverse, length-reverse, take-append-drop, length-take-le}
use Rattle.std.proofs.lemmas.List.Sorted.{sorted_far, Contains-permutation}
use Rattle.std.proofs.lemmas.List.MinMax.{ranks_by, IsStrictWeakOrder-flip}
use Rattle.std.proofs.lemmas.Map.Keys.{sorted_head, sorted_tail}
use Rattle.std.proofs.Math.Seq.{drop-append_seam}
use Rattle.std.specs.Option.{option_to_list, MatchOption}
use Rattle.std.specs.List.{AllByRecursion, Contains}
use Rattle.std.specs.List.Sorted.{IsStrictlySortedBy, IsSortedBy, IsPermutation}
use Rattle.std.specs.Ordering.{is_gt, is_eq, is_lt, ordering_reverse}
use Rattle.std.specs.declared.cmp.Ordering.{Ordering}
use Rattle.std.specs.declared.cmp.Ordering.TheVariants.{Less, Equal, Greater}
use Rattle.bufr_entries.specs.Entries.{slot_cmp, rank_cmp, kept}
use Rattle.bufr_entries.specs.Keeping.{Has, Within, SameMembers, put_by, first_of}
use Rattle.bufr_entries.specs.KeepingLaws.{Covers, Keeps, Has-left, Has-right, Has-append}
use Rattle.bufr_entries.specs.KeepingLaws as laws
use Rattle.bufr_entries.specs.Merging.{heads_order}
use Rattle.bufr_entries.specs.Orders.{slots_total, ranks_total, exact_entries, kept-swap, kept-same}
use Rattle.bufr_entries.specs.Orders.{kept-are, kept-late, kept-kept, kept-early, kept-sorted}
use Rattle.bufr_entries.specs.Marks.{SlotView}
use Rattle.bufr_entries.specs.Pages.{paged, octets_of, marked, mark_of, flat, EndsBefore, AreRising, LeadsAlone, waits_in, HaveParts}
use Rattle.bufr_entries.specs.declared.entry.Entry.{Entry}
use Rattle.bufr_entries.specs.declared.page.PageEntry.{PageEntry}
use Rattle.bufr_entries.specs.declared.waiting.WaitingEntry.{WaitingEntry}

-- ---- pages

pub paged-push : (es : List PageEntry) (os xs : List ℕ) (e : PageEntry)
    → octets_of es ≡ length os → e.len ≡ length xs
    → paged (es ++ e ∷ []) (os ++ xs) ≡ paged es os ++ marked e.mark xs ∷ []
paged-push [] os xs e h n =
    let none : os ≡ [] = nil_from_length os (sym h) in
    ap (λ zs. paged (e ∷ []) (zs ++ xs)) none
    ∙ ap (λ zs. marked e.mark zs ∷ []) (take_all e.len xs (omega (arith, n)))
paged-push (d ∷ es) os xs e h n =
    let fits : d.len ≤ length os = omega (arith, h) in
    let rest : octets_of es ≡ length (drop d.len os) = omega (arith, h, length-drop d.len os) in
    ap (λ zs. marked d.mark zs ∷ paged (es ++ e ∷ []) (drop d.len (os ++ xs)))
    (take-append-le d.len os xs fits)
    ∙ ap (λ zs. marked d.mark (take d.len os) ∷ paged (es ++ e ∷ []) zs)
    (drop-append-le d.len os xs fits)
    ∙ ap (λ zs. marked d.mark (take d.len os) ∷ zs)
    (paged-push es (drop d.len os) xs e rest n)

pub octets_of-push : (es : List PageEntry) (e : PageEntry)
    → octets_of (es ++ e ∷ []) ≡ octets_of es + e.len
octets_of-push [] e = omega arith
octets_of-push (d ∷ es) e = omega (arith, octets_of-push es e)

pub length-paged : (es : List PageEntry) (os : List ℕ) → length (paged es os) ≡ length es
length-paged [] os = refl
length-paged (e ∷ es) os = ap suc (length-paged es (drop e.len os))

pub last-fits : (es rs : List PageEntry) (e : PageEntry) (from n : ℕ) → es ≡ e ∷ rs
    → from + octets_of (reverse es) ≡ n → e.len ≤ n
last-fits es rs e from n is h =
    let all : octets_of (reverse es) ≡ octets_of (reverse rs) + e.len =
    ap (λ xs. octets_of (reverse xs)) is ∙ ap octets_of (reverse-append (e ∷ []) rs)
    ∙ octets_of-push (reverse rs) e in
    omega (arith, h, all)

pub last-paged : (es rs : List PageEntry) (e : PageEntry) (os : List ℕ) (from n : ℕ)
    (s : List Entry) → es ≡ e ∷ rs → from + octets_of (reverse es) ≡ length os
    → n + e.len ≡ length os → paged (reverse es) (drop from os) ≡ s
    → Some (marked e.mark (drop n os)) ≡ first_of (reverse s)
last-paged es rs e os from n s is h a v =
    let ps = drop from os in let k = octets_of (reverse rs) in
    let turned : reverse es ≡ reverse rs ++ e ∷ [] =
    ap reverse is ∙ reverse-append (e ∷ []) rs in
    let all : octets_of (reverse es) ≡ k + e.len =
    ap octets_of turned ∙ octets_of-push (reverse rs) e in
    let place : n ≡ from + k = omega (arith, h, a, all) in
    let room : length ps ≡ k + e.len = omega (arith, length-drop from os, h, all) in
    let page : s ≡ paged (reverse rs) (take k ps) ++ marked e.mark (drop n os) ∷ [] =
    sym v ∙ ap (λ xs. paged xs ps) turned
    ∙ ap (paged (reverse rs ++ e ∷ [])) (sym (take-append-drop k ps))
    ∙ paged-push (reverse rs) (take k ps) (drop k ps) e
    (sym (length-take-le k ps (omega (arith, room)))) (omega (arith, room, length-drop k ps))
    ∙ ap (λ xs. paged (reverse rs) (take k ps) ++ marked e.mark xs ∷ [])
    (drop-drop k from os ∙ ap (λ i. drop i os) (sym place)) in
    sym (ap first_of (ap reverse page
    ∙ reverse-append (paged (reverse rs) (take k ps)) (marked e.mark (drop n os) ∷ [])))

pub room-fits : (es fs : List PageEntry) (os ps xs : List ℕ) (m : SlotView)
    → octets_of es ≡ length os → fs ≡ es ++ record { mark = m; len = length xs } ∷ []
    → ps ≡ os ++ xs → octets_of fs ≡ length ps
room-fits es fs os ps xs m h f p =
    ap octets_of f ∙ octets_of-push es (record { mark = m; len = length xs })
    ∙ ap (λ n. n + length xs) h ∙ sym (length-append os xs) ∙ ap length (sym p)

pub room-view : (es fs : List PageEntry) (os ps xs : List ℕ) (m : SlotView) (ds : List Entry)
    (e : Entry) (r : Option Entry) → octets_of es ≡ length os
    → fs ≡ es ++ record { mark = m; len = length xs } ∷ [] → ps ≡ os ++ xs → paged es os ≡ ds
    → m ≡ mark_of e → xs ≡ e.bytes → r ≡ Some e → paged fs ps ≡ ds ++ option_to_list r
room-view es fs os ps xs m ds e r h f p d is_mark is_octets is_first =
    ap (λ z. paged z ps) f
    ∙ ap (paged (es ++ record { mark = m; len = length xs } ∷ [])) p
    ∙ paged-push es os xs (record { mark = m; len = length xs }) h refl
    ∙ ap (λ z. z ++ marked m xs ∷ []) d
    ∙ ap (λ z. ds ++ marked z xs ∷ []) is_mark
    ∙ ap (λ z. ds ++ marked (mark_of e) z ∷ []) is_octets
    ∙ ap (λ z. ds ++ option_to_list z) (sym is_first)

pub flat-append : (ps qs : List (List Entry)) → flat (ps ++ qs) ≡ flat ps ++ flat qs
flat-append [] qs = refl
flat-append (p ∷ ps) qs = ap (λ es. p ++ es) (flat-append ps qs) ∙ sym (append_assoc p (flat ps) (flat qs))

pub flat-push : (ps : List (List Entry)) (p : List Entry) → flat (ps ++ p ∷ []) ≡ flat ps ++ p
flat-push ps p = flat-append ps (p ∷ []) ∙ ap (λ es. flat ps ++ es) (append-nil p)

-- ---- the last waiting entry

pub taken-is : {A : Type 0} (xs ys : List A) (y : A) → xs ≡ ys ++ y ∷ [] → reverse xs ≡ y ∷ reverse ys
taken-is xs ys y h = ap reverse h ∙ reverse-append ys (y ∷ [])

rest-taken : {A : Type 0} (xs ys : List A) (n m : ℕ) (r : Option A) → n ≡ length xs
    → m ≡ length ys → xs ≡ ys ++ option_to_list r
    → MatchOption r ((n ≡ 0) × (m ≡ 0)) (λ _. m + 1 ≡ n) → reverse ys ≡ drop 1 (reverse xs)
rest-taken xs ys n m None a b h none =
    ap reverse (nil_from_length ys (sym b ∙ none.1))
    ∙ sym (ap (λ es. drop 1 (reverse es)) (nil_from_length xs (sym a ∙ none.0)))
rest-taken xs ys n m (Some y) a b h some = sym (ap (drop 1) (taken-is xs ys y h))

pub other-gone : {A : Type 0} (xs zs ys vs : List A) (y : A) (n m : ℕ) (r : Option A)
    → xs ≡ zs ++ y ∷ [] → n ≡ length zs → m ≡ length ys → zs ≡ ys ++ option_to_list r
    → MatchOption r ((n ≡ 0) × (m ≡ 0)) (λ _. m + 1 ≡ n) → vs ≡ ys ++ y ∷ []
    → reverse vs ≡ take 1 (reverse xs) ++ drop 2 (reverse xs)
other-gone xs zs ys vs y n m r x a b z c v =
    taken-is vs ys y v ∙ ap (λ es. y ∷ es) (rest-taken zs ys n m r a b z c)
    ∙ sym (ap (λ es. take 1 es ++ drop 2 es) (taken-is xs zs y x))

but_second : {A : Type 0} (f : A → Entry) (rs : List A)
    → map f (take 1 rs ++ drop 2 rs) ≡ take 1 (map f rs) ++ drop 2 (map f rs)
but_second f [] = refl
but_second f (x ∷ []) = refl
but_second f (x ∷ y ∷ rs) = refl

mapped-reverse : {A : Type 0} (f : A → Entry) (xs : List A)
    → map f (reverse xs) ≡ reverse (map f xs)
mapped-reverse f [] = refl
mapped-reverse f (x ∷ xs) =
    ap (map f) (reverse-append (x ∷ []) xs) ∙ map-append f (reverse xs) (x ∷ [])
    ∙ ap (λ es. es ++ f x ∷ []) (mapped-reverse f xs)
    ∙ sym (reverse-append (f x ∷ []) (map f xs))

pub mapped-other : {A : Type 0} (f : A → Entry) (xs vs : List A)
    → reverse vs ≡ take 1 (reverse xs) ++ drop 2 (reverse xs)
    → reverse (map f vs) ≡ take 1 (reverse (map f xs)) ++ drop 2 (reverse (map f xs))
mapped-other f xs vs h =
    sym (mapped-reverse f vs) ∙ ap (map f) h ∙ but_second f (reverse xs)
    ∙ ap (λ es. take 1 es ++ drop 2 es) (mapped-reverse f xs)

pub heads-are : (ls rs : List Entry) (l e : Entry) → first_of ls ≡ Some l → first_of rs ≡ Some e
    → heads_order slot_cmp ls rs ≡ slot_cmp l e
heads-are [] rs l e a b = cc
heads-are (k ∷ ls) [] l e a b = cc
heads-are (k ∷ ls) (f ∷ rs) l e a b =
    let is_l : k ≡ l = cc in let is_e : f ≡ e = cc in
    ap (λ z. slot_cmp z f) is_l ∙ ap (slot_cmp l) is_e

-- ---- members

all_join : {A : Type 0} (P : A → Type 0) (xs ys : List A) → AllByRecursion P xs → AllByRecursion P ys
    → AllByRecursion P (xs ++ ys)
all_join P [] ys a b = b
all_join P (x ∷ xs) ys a b = (a.0, all_join P xs ys a.1 b)

all_left : {A : Type 0} (P : A → Type 0) (xs ys : List A) → AllByRecursion P (xs ++ ys)
    → AllByRecursion P xs
all_left P [] ys a = tt
all_left P (x ∷ xs) ys a = (a.0, all_left P xs ys a.1)

all_right : (P : Entry → Type 0) (xs ys : List Entry) → AllByRecursion P (xs ++ ys)
    → AllByRecursion P ys
all_right P [] ys a = a
all_right P (x ∷ xs) ys a = all_right P xs ys a.1

all_of : {A : Type 0} (P : A → Type 0) (xs : List A) → ((x : A) → Has xs x → P x)
    → AllByRecursion P xs
all_of P [] f = tt
all_of P (x ∷ xs) f = (f x (inl refl), all_of P xs (λ y h. f y (inr h)))

all_at : {A : Type 0} (P : A → Type 0) (xs : List A) (x : A) → AllByRecursion P xs → Has xs x → P x
all_at P [] x a h = absurd h
all_at P (y ∷ xs) x a (inl e) = subst P (sym e) a.0
all_at P (y ∷ xs) x a (inr h) = all_at P xs x a.1 h

all_so : {A : Type 0} (P Q : A → Type 0) → ((x : A) → P x → Q x) → (xs : List A)
    → AllByRecursion P xs → AllByRecursion Q xs
all_so P Q f [] a = tt
all_so P Q f (x ∷ xs) a = (f x a.0, all_so P Q f xs a.1)

-- ---- slots

turned : (a b : Entry) (o : Ordering) → slot_cmp a b ≡ o → slot_cmp b a ≡ ordering_reverse o
turned a b o h = slots_total.antisymm b a ∙ ap ordering_reverse h

less_tied : (d k x : Entry) → slot_cmp d k ≡ Less → slot_cmp x k ≡ Equal → slot_cmp d x ≡ Less
less_tied d k x h e =
    turned x d Greater (slots_total.congr x k d e ∙ turned d k Less h)

less_upto : (d e f : Entry) → slot_cmp d e ≡ Less → is_gt (slot_cmp e f) ≡ false
    → slot_cmp d f ≡ Less
less_upto d e f h u =
    elim (slot_cmp e f) as (λ o. slot_cmp e f ≡ o → is_gt o ≡ false → slot_cmp d f ≡ Less) [
      | Less ↦ λ l _. slots_total.trans d e f h l
      | Equal ↦ λ l _. less_tied d e f h (turned e f Equal l)
      | Greater ↦ λ _ z. cc
    ] refl u

less_rising : (d e : Entry) (es : List Entry) → slot_cmp d e ≡ Less → AreRising (e ∷ es)
    → AllByRecursion (λ f. slot_cmp d f ≡ Less) (e ∷ es)
less_rising d e es h r = (
  h,
  all_so (λ f. is_gt (slot_cmp e f) ≡ false) (λ f. slot_cmp d f ≡ Less)
      (λ f u. less_upto d e f h u) es r.0,
)

less_sorted : (d e : Entry) (es : List Entry) → slot_cmp d e ≡ Less
    → IsStrictlySortedBy slot_cmp (e ∷ es) → AllByRecursion (λ f. slot_cmp d f ≡ Less) (e ∷ es)
less_sorted d e es h s = (
  h,
  all_so (λ f. slot_cmp e f ≡ Less) (λ f. slot_cmp d f ≡ Less)
      (λ f l. slots_total.trans d e f h l) es (sorted_head slot_cmp e es s),
)

-- ---- what is kept

put_first : (e : Entry) (ks : List Entry) → AllByRecursion (λ f. slot_cmp e f ≡ Less) ks
    → put_by slot_cmp rank_cmp e ks ≡ e ∷ ks
put_first e [] a = refl
put_first e (k ∷ ks) a = laws.put_less slot_cmp rank_cmp e k ks a.0

kept_first : (e : Entry) (es : List Entry) → AllByRecursion (λ f. slot_cmp e f ≡ Less) es
    → kept (e ∷ es) ≡ e ∷ kept es
kept_first e es a =
    put_first e (kept es) (all_of (λ f. slot_cmp e f ≡ Less) (kept es)
    (λ x h. all_at (λ f. slot_cmp e f ≡ Less) es x a
    ((laws.kept_keeps slot_cmp rank_cmp slots_total ranks_total es).from x h)))

kept_mid : (xs ys : List Entry) (e : Entry) → kept (xs ++ e ∷ ys) ≡ kept (e ∷ (xs ++ ys))
kept_mid xs ys e =
    kept-swap xs (e ∷ ys) ∙ ap (put_by slot_cmp rank_cmp e) (kept-swap ys xs)

kept_gone : (e f : Entry) (es : List Entry) → Has es f → slot_cmp e f ≡ Equal
    → is_gt (rank_cmp e f) ≡ false → kept (e ∷ es) ≡ kept es
kept_gone e f es m s r =
    let k = laws.kept_keeps slot_cmp rank_cmp slots_total ranks_total es in
    let c = laws.covers_trans slot_cmp rank_cmp slots_total ranks_total (kept es) e f s r
    (k.covered f m) in
    let one : Keeps slot_cmp rank_cmp (e ∷ es) (kept es) = record {
      ordered = k.ordered;
      from = λ x h. inr (k.from x h);
      covered = λ x h. elim h [
        | inl q ↦ subst (Covers slot_cmp rank_cmp (kept es)) (sym q) c
        | inr n ↦ k.covered x n
      ];
    } in
    laws.keeps_one slot_cmp rank_cmp slots_total ranks_total exact_entries (e ∷ es) _ _
    (laws.kept_keeps slot_cmp rank_cmp slots_total ranks_total (e ∷ es)) one

not_both : (a b : Entry) → is_gt (rank_cmp a b) ≡ true → is_gt (rank_cmp b a) ≡ false
not_both a b h =
    rw (ranks_total.antisymm b a)
    (elim (rank_cmp a b) as (λ o. is_gt o ≡ true → is_gt (ordering_reverse o) ≡ false)
    [ Less ↦ λ z. cc | Equal ↦ λ z. cc | Greater ↦ λ _. refl ] h)

-- ---- the steps of `fill`

pub step-left : (ds ls rs : List Entry) → IsStrictlySortedBy slot_cmp ls → AreRising rs
    → heads_order slot_cmp ls rs ≡ Less
    → (ds ++ option_to_list (first_of ls)) ++ kept (drop 1 ls ++ rs) ≡ ds ++ kept (ls ++ rs)
step-left ds [] [] s r h = ap (λ es. es ++ []) (append-nil ds)
step-left ds [] (e ∷ rs) s r h = cc
step-left ds (l ∷ ls) [] s r h =
    append_assoc ds (l ∷ []) (kept (ls ++ []))
    ∙ ap (λ es. ds ++ es) (sym (kept_first l (ls ++ [])
    (all_join (λ f. slot_cmp l f ≡ Less) ls [] (sorted_head slot_cmp l ls s) tt)))
step-left ds (l ∷ ls) (e ∷ rs) s r h =
    append_assoc ds (l ∷ []) (kept (ls ++ e ∷ rs))
    ∙ ap (λ es. ds ++ es) (sym (kept_first l (ls ++ e ∷ rs)
    (all_join (λ f. slot_cmp l f ≡ Less) ls (e ∷ rs) (sorted_head slot_cmp l ls s)
    (less_rising l e rs h r))))

pub step-last : (ds ls rs : List Entry) → IsStrictlySortedBy slot_cmp ls → LeadsAlone rs
    → heads_order slot_cmp ls rs ≡ Greater
    → (ds ++ option_to_list (first_of rs)) ++ kept (ls ++ drop 1 rs) ≡ ds ++ kept (ls ++ rs)
step-last ds ls [] s a h = cc
step-last ds [] (e ∷ rs) s a h =
    append_assoc ds (e ∷ []) (kept rs) ∙ ap (λ es. ds ++ es) (sym (kept_first e rs a))
step-last ds (l ∷ ls) (e ∷ rs) s a h =
    append_assoc ds (e ∷ []) (kept ((l ∷ ls) ++ rs))
    ∙ ap (λ es. ds ++ es) (sym (kept_mid (l ∷ ls) rs e ∙ kept_first e ((l ∷ ls) ++ rs)
    (all_join (λ f. slot_cmp e f ≡ Less) (l ∷ ls) rs
    (less_sorted e l ls (turned l e Greater h) s) a)))

-- ---- a page taken whole

first-append : (xs ys : List Entry) → 0 < length xs → first_of (xs ++ ys) ≡ first_of xs
first-append [] ys h = absurd (omega (arith, h))
first-append (x ∷ xs) ys h = refl

all_with_last : (ps : List Entry) (e f : Entry) → IsStrictlySortedBy slot_cmp ps
    → first_of (reverse ps) ≡ Some e → slot_cmp e f ≡ Less
    → AllByRecursion (λ p. slot_cmp p f ≡ Less) ps
all_with_last [] e f s h l = tt
all_with_last (p ∷ []) e f s h l =
    let is : p ≡ e = cc in (ap (λ z. slot_cmp z f) is ∙ l, tt)
all_with_last (p ∷ q ∷ ps) e f s h l =
    let some : 0 < length (reverse (q ∷ ps)) = omega (arith, length-reverse (q ∷ ps)) in
    let last : first_of (reverse (q ∷ ps)) ≡ Some e =
    sym (first-append (reverse (q ∷ ps)) (p ∷ []) some)
    ∙ ap first_of (sym (reverse-append (p ∷ []) (q ∷ ps))) ∙ h in
    let rest = all_with_last (q ∷ ps) e f (sorted_tail slot_cmp p (q ∷ ps) s) last l in
    (slots_total.trans p q f (sorted_head slot_cmp p (q ∷ ps) s).0 rest.0, rest)

-- all entries of a page come before all waiting ones
abbrev AllBefore : List Entry → List Entry → Type 0
AllBefore es fs = AllByRecursion (λ e. AllByRecursion (λ f. slot_cmp e f ≡ Less) fs) es

all_before : (ps rs : List Entry) → IsStrictlySortedBy slot_cmp ps → AreRising rs
    → EndsBefore ps (first_of rs) → AllBefore ps rs
all_before ps [] s r h = all_of (λ e. AllByRecursion (λ f. slot_cmp e f ≡ Less) []) ps (λ x m. tt)
all_before ps (e ∷ rs) s r h =
    all_so (λ p. slot_cmp p e ≡ Less) (λ p. AllByRecursion (λ f. slot_cmp p f ≡ Less) (e ∷ rs))
    (λ p l. less_rising p e rs l r) ps (all_with_last ps h.0 e s h.1 h.2)

sorted_parts : (ps ls : List Entry) → IsStrictlySortedBy slot_cmp (ps ++ ls)
    → IsStrictlySortedBy slot_cmp ps × IsStrictlySortedBy slot_cmp ls
unfolding IsStrictlySortedBy
sorted_parts [] ls s = (tt, s)
sorted_parts (p ∷ ps) ls s =
    let r = sorted_parts ps ls s.1 in
    ((all_left (λ f. slot_cmp p f ≡ Less) ps ls s.0, r.0), r.1)

whole_first : (ps ls rs : List Entry) → IsStrictlySortedBy slot_cmp (ps ++ ls) → AllBefore ps rs
    → kept ((ps ++ ls) ++ rs) ≡ ps ++ kept (ls ++ rs)
whole_first [] ls rs s a = refl
whole_first (p ∷ ps) ls rs s a =
    kept_first p ((ps ++ ls) ++ rs) (all_join (λ f. slot_cmp p f ≡ Less) (ps ++ ls) rs
    (sorted_head slot_cmp p (ps ++ ls) s) a.0)
    ∙ ap (λ es. p ∷ es) (whole_first ps ls rs (sorted_tail slot_cmp p (ps ++ ls) s) a.1)

pub step-page : (ss ts ps ls ms rs : List Entry) → ts ≡ ss ++ ps → ls ≡ ps ++ ms
    → IsStrictlySortedBy slot_cmp ls → AreRising rs → EndsBefore ps (first_of rs)
    → ts ++ kept (ms ++ rs) ≡ ss ++ kept (ls ++ rs)
step-page ss ts ps ls ms rs t l s r h =
    let both : IsStrictlySortedBy slot_cmp (ps ++ ms) = subst (IsStrictlySortedBy slot_cmp) l s in
    ap (λ es. es ++ kept (ms ++ rs)) t ∙ append_assoc ss ps (kept (ms ++ rs))
    ∙ ap (λ es. ss ++ es) (sym (whole_first ps ms rs both
    (all_before ps rs (sorted_parts ps ms both).0 r h)))
    ∙ ap (λ es. ss ++ kept (es ++ rs)) (sym l)

pub sorted-behind : (ps ls ms : List Entry) → ls ≡ ps ++ ms → IsStrictlySortedBy slot_cmp ls
    → IsStrictlySortedBy slot_cmp ms
sorted-behind ps ls ms l s = (sorted_parts ps ms (subst (IsStrictlySortedBy slot_cmp) l s)).1

-- ---- entries that give way

pub drop-left : (ls rs : List Entry) (l e : Entry) → first_of ls ≡ Some l → first_of rs ≡ Some e
    → heads_order slot_cmp ls rs ≡ Equal → is_gt (rank_cmp e l) ≡ true
    → kept (drop 1 ls ++ rs) ≡ kept (ls ++ rs)
drop-left [] rs l e a b h g = cc
drop-left (k ∷ ls) [] l e a b h g = cc
drop-left (k ∷ ls) (f ∷ rs) l e a b h g =
    let is_l : k ≡ l = cc in let is_e : f ≡ e = cc in
    let up : is_gt (rank_cmp f k) ≡ true =
    ap is_gt (ap (λ z. rank_cmp z k) is_e ∙ ap (rank_cmp e) is_l) ∙ g in
    sym (kept_gone k f (ls ++ f ∷ rs) (Has-right ls (f ∷ rs) f (inl refl)) h (not_both f k up))

pub drop-last : (ls rs : List Entry) (l e : Entry) → first_of ls ≡ Some l → first_of rs ≡ Some e
    → heads_order slot_cmp ls rs ≡ Equal → is_gt (rank_cmp e l) ≡ false
    → kept (ls ++ drop 1 rs) ≡ kept (ls ++ rs)
drop-last [] rs l e a b h g = cc
drop-last (k ∷ ls) [] l e a b h g = cc
drop-last (k ∷ ls) (f ∷ rs) l e a b h g =
    let is_l : k ≡ l = cc in let is_e : f ≡ e = cc in
    let up : is_gt (rank_cmp f k) ≡ false =
    ap is_gt (ap (λ z. rank_cmp z k) is_e ∙ ap (rank_cmp e) is_l) ∙ g in
    sym (kept_mid (k ∷ ls) rs f ∙ kept_gone f k ((k ∷ ls) ++ rs) (inl refl)
    (turned k f Equal h) up)

pub rising-rest : (rs : List Entry) → AreRising rs → AreRising (drop 1 rs)
rising-rest [] r = tt
rising-rest (e ∷ rs) r = r.1

pub sorted-rest : (ls : List Entry) → IsStrictlySortedBy slot_cmp ls
    → IsStrictlySortedBy slot_cmp (drop 1 ls)
sorted-rest [] s = s
sorted-rest (l ∷ ls) s = sorted_tail slot_cmp l ls s

-- ---- two entries of one slot

pub tied-kept : (e f : Entry) (rs : List Entry) → is_eq (slot_cmp e f) ≡ true
    → kept (cond (is_gt (rank_cmp e f)) e f ∷ rs) ≡ kept (e ∷ f ∷ rs)
tied-kept e f rs t =
    let same : slot_cmp e f ≡ Equal =
    elim (slot_cmp e f) as (λ o. is_eq o ≡ true → o ≡ Equal)
    [ Less ↦ λ z. cc | Equal ↦ λ _. refl | Greater ↦ λ z. cc ] t in
    elim (is_gt (rank_cmp e f)) as (λ b. is_gt (rank_cmp e f) ≡ b
    → kept (cond b e f ∷ rs) ≡ kept (e ∷ f ∷ rs)) [
      | true ↦ λ g. sym (kept_mid (e ∷ []) rs f
          ∙ kept_gone f e (e ∷ rs) (inl refl) (turned e f Equal same) (not_both e f g))
      | false ↦ λ g. sym (kept_gone e f (f ∷ rs) (inl refl) same g)
    ] refl

pub apart-leads : (e f : Entry) (rs : List Entry) → AreRising (e ∷ f ∷ rs)
    → is_eq (slot_cmp e f) ≡ false → LeadsAlone (e ∷ f ∷ rs)
apart-leads e f rs r t =
    let less : slot_cmp e f ≡ Less =
    elim (slot_cmp e f) as (λ o. is_gt o ≡ false → is_eq o ≡ false → o ≡ Less)
    [ Less ↦ λ _ _. refl | Equal ↦ λ _ z. cc | Greater ↦ λ z _. cc ] r.0.0 t in
    less_rising e f rs less r.1

pub tied-other : (rs ns : List Entry) (e f : Entry) → rs ≡ e ∷ f ∷ drop 2 rs
    → ns ≡ take 1 rs ++ drop 2 rs → is_gt (rank_cmp e f) ≡ true
    → ns ≡ cond (is_gt (rank_cmp e f)) e f ∷ drop 2 rs
tied-other rs ns e f r n t =
    n ∙ ap (λ es. take 1 es ++ drop 2 rs) r ∙ sym (ap (λ b. cond b e f ∷ drop 2 rs) t)

pub tied-first : (rs ns : List Entry) (e f : Entry) → rs ≡ e ∷ f ∷ drop 2 rs
    → ns ≡ drop 1 rs → is_gt (rank_cmp e f) ≡ false
    → ns ≡ cond (is_gt (rank_cmp e f)) e f ∷ drop 2 rs
tied-first rs ns e f r n t =
    n ∙ ap (drop 1) r ∙ sym (ap (λ b. cond b e f ∷ drop 2 rs) t)

-- ---- order

pub sorted-back : (ds ls rs : List Entry) → IsStrictlySortedBy slot_cmp ls
    → IsStrictlySortedBy slot_cmp (ds ++ kept (ls ++ rs))
    → IsStrictlySortedBy slot_cmp (ds ++ ls)
unfolding IsStrictlySortedBy
sorted-back [] ls rs s t = s
sorted-back (d ∷ ds) ls rs s t =
    let k = laws.kept_keeps slot_cmp rank_cmp slots_total ranks_total (ls ++ rs) in
    let P : Entry → Type 0 = λ f. slot_cmp d f ≡ Less in (
      all_join P ds ls (all_left P ds (kept (ls ++ rs)) t.0)
          (all_of P ls (λ x h. let c = k.covered x (Has-left ls rs x h) in
          less_tied d c.by x (all_at P (kept (ls ++ rs)) c.by
          (all_right P ds (kept (ls ++ rs)) t.0) c.member) c.same)),
      sorted-back ds ls rs s t.1,
    )

rising-push : (es : List Entry) (x : Entry) → AreRising es
    → AllByRecursion (λ e. is_gt (slot_cmp e x) ≡ false) es → AreRising (es ++ x ∷ [])
rising-push [] x r a = (tt, tt)
rising-push (e ∷ es) x r a = (
  all_join (λ f. is_gt (slot_cmp e f) ≡ false) es (x ∷ []) r.0 (a.0, tt),
  rising-push es x r.1 a.1,
)

all_reverse : (P : Entry → Type 0) (xs : List Entry) → AllByRecursion P xs
    → AllByRecursion P (reverse xs)
all_reverse P [] a = tt
all_reverse P (x ∷ xs) a =
    subst (AllByRecursion P) (sym (reverse-append (x ∷ []) xs))
    (all_join P (reverse xs) (x ∷ []) (all_reverse P xs a.1) (a.0, tt))

-- the order of slots, from the greatest down
abbrev pub falls : Entry → Entry → Bool
falls e f = is_lt (slot_cmp f e)

not_before : (a b : Entry) → is_lt (slot_cmp a b) ≡ false → is_gt (slot_cmp b a) ≡ false
not_before a b h =
    rw (slots_total.antisymm b a)
    (elim (slot_cmp a b) as (λ o. is_lt o ≡ false → is_gt (ordering_reverse o) ≡ false)
    [ Less ↦ λ z. cc | Equal ↦ λ _. refl | Greater ↦ λ _. refl ] h)

all_indices : {A : Type 0} (f : A → Entry) (P : Entry → Type 0) (xs : List A)
    → ((k : ℕ) (d : A) → k < length xs → P (f (get_or xs k d))) → AllByRecursion P (map f xs)
all_indices f P [] h = tt
all_indices f P (x ∷ xs) h =
    (h 0 x (omega arith), all_indices f P xs (λ k d lt. h (suc k) d (omega (arith, lt))))

far-rising : {A : Type 0} (f : A → Entry) (xs : List A) → ((i j : ℕ) (d : A) → i ≤ j
    → j < length xs → falls (f (get_or xs j d)) (f (get_or xs i d)) ≡ false)
    → AreRising (reverse (map f xs))
far-rising f [] h = tt
far-rising f (x ∷ xs) h =
    let rest = far-rising f xs
    (λ i j d le lt. h (suc i) (suc j) d (omega (arith, le)) (omega (arith, lt))) in
    let P : Entry → Type 0 = λ e. is_gt (slot_cmp e (f x)) ≡ false in
    let before : AllByRecursion P (map f xs) =
    all_indices f P xs (λ k d lt. not_before (f x) (f (get_or xs k d))
    (h 0 (suc k) d (omega arith) (omega (arith, lt)))) in
    subst AreRising (sym (reverse-append (f x ∷ []) (map f xs)))
    (rising-push (reverse (map f xs)) (f x) rest (all_reverse P (map f xs) before))

pub rising-sorted : {A : Type 0} (f : A → Entry) (xs : List A)
    → IsSortedBy (λ d e. falls (f d) (f e)) xs → AreRising (reverse (map f xs))
rising-sorted f xs s =
    far-rising f xs (sorted_far (λ d e. falls (f d) (f e))
    (IsStrictWeakOrder-flip (λ d e. is_lt (slot_cmp (f d) (f e))) (ranks_by slots_total f)) xs s)

-- ---- what is kept of all

has-contains : {A : Type 0} (xs : List A) (x : A) → Has xs x → Contains xs x
has-contains [] x h = absurd h
has-contains (y ∷ xs) x (inl e) = let lt : 0 < length (y ∷ xs) = omega arith in (0, lt, sym e)
has-contains (y ∷ xs) x (inr h) =
    let c = has-contains xs x h in
    let k = c.0 in
    let lt : suc k < length (y ∷ xs) = omega (arith, c.1) in
    (suc k, lt, c.2)

contains-has : {A : Type 0} (xs : List A) (x : A) (k : ℕ) → k < length xs
    → slice_index_or xs k x ≡ x → Has xs x
contains-has [] x k l e = absurd (omega (arith, l))
contains-has (y ∷ xs) x zero l e = inl (sym e)
contains-has (y ∷ xs) x (suc k) l e =
    let lt : k < length xs = omega (arith, l) in inr (contains-has xs x k lt e)

pub Within-permutation : {A : Type 0} (xs ys : List A) → IsPermutation xs ys → Within xs ys
Within-permutation xs ys p x h =
    let c = Contains-permutation xs ys x p (has-contains xs x h) in
    contains-has ys x c.0 c.1 c.2

has-reverse : {A : Type 0} (xs : List A) (x : A) → Has xs x → Has (reverse xs) x
has-reverse [] x h = absurd h
has-reverse (y ∷ xs) x h =
    subst (λ zs. Has zs x) (sym (reverse-append (y ∷ []) xs))
    (elim h [
      | inl e ↦ Has-right (reverse xs) (y ∷ []) x (inl e)
      | inr m ↦ Has-left (reverse xs) (y ∷ []) x (has-reverse xs x m)
    ])

same-reverse : {A : Type 0} (xs : List A) → SameMembers xs (reverse xs)
same-reverse xs = (
  λ x h. has-reverse xs x h,
  λ x h. subst (λ zs. Has zs x) (reverse-reverse xs) (has-reverse (reverse xs) x h),
)

pub kept-anyhow : (ds ls vs ws : List Entry) → SameMembers vs ws
    → kept (ds ++ (ls ++ vs)) ≡ kept (ds ++ (ls ++ ws))
kept-anyhow ds ls vs ws s =
    sym (kept-late ds (ls ++ vs))
    ∙ ap (λ es. kept (ds ++ es)) (sym (kept-late ls vs) ∙ ap (λ es. kept (ls ++ es))
    (kept-same vs ws s) ∙ kept-late ls ws)
    ∙ kept-late ds (ls ++ ws)

pub kept-turned : (ds ls ws : List Entry)
    → kept (ds ++ (ls ++ ws)) ≡ kept (ds ++ kept (ls ++ reverse ws))
kept-turned ds ls ws =
    kept-anyhow ds ls ws (reverse ws) (same-reverse ws) ∙ sym (kept-late ds (ls ++ reverse ws))

pub settled-so : (ss ls ws s : List Entry) → IsStrictlySortedBy slot_cmp ls
    → ss ++ kept (ls ++ reverse ws) ≡ kept s
    → IsStrictlySortedBy slot_cmp (ss ++ ls) × (kept (ss ++ (ls ++ ws)) ≡ kept s)
settled-so ss ls ws s sorted all = (
  sorted-back ss ls (reverse ws) sorted
      (subst (IsStrictlySortedBy slot_cmp) (sym all) (kept-are s).ordered),
  kept-turned ss ls ws ∙ ap kept all ∙ kept-kept s,
)

pub kept-beside : (ls vs ws : List Entry) → kept vs ≡ kept ws → kept (ls ++ vs) ≡ kept (ls ++ ws)
kept-beside ls vs ws h =
    sym (kept-late ls vs) ∙ ap (λ es. kept (ls ++ es)) h ∙ kept-late ls ws

-- ---- the octets of waiting entries

parts-same : (os xs : List ℕ) (es : List WaitingEntry) → HaveParts os es
    → map (waits_in (os ++ xs)) es ≡ map (waits_in os) es
parts-same os xs [] h = refl
parts-same os xs (e ∷ es) h =
    let from : e.from ≤ length os = omega (arith, h.0) in
    let rest : e.len ≤ length (drop e.from os) = omega (arith, h.0, length-drop e.from os) in
    ap (λ zs. marked e.mark (take e.len zs) ∷ map (waits_in (os ++ xs)) es)
    (drop-append-le e.from os xs from)
    ∙ ap (λ zs. marked e.mark zs ∷ map (waits_in (os ++ xs)) es)
    (take-append-le e.len (drop e.from os) xs rest)
    ∙ ap (λ zs. waits_in os e ∷ zs) (parts-same os xs es h.1)

pub parts-push : (os ps xs : List ℕ) (es fs : List WaitingEntry) (m : SlotView) (s : List Entry)
    (n k : ℕ) → n ≡ length os → k ≡ length xs → HaveParts os es → ps ≡ os ++ xs
    → fs ≡ es ++ record { mark = m; from = n; len = k } ∷ [] → map (waits_in os) es ≡ s
    → map (waits_in ps) fs ≡ s ++ marked m xs ∷ []
parts-push os ps xs es fs m s n k a b h p f v =
    let e : WaitingEntry = record { mark = m; from = n; len = k } in
    ap (λ zs. map (waits_in zs) fs) p ∙ ap (map (waits_in (os ++ xs))) f
    ∙ map-append (waits_in (os ++ xs)) es (e ∷ [])
    ∙ ap (λ zs. zs ++ waits_in (os ++ xs) e ∷ []) (parts-same os xs es h ∙ v)
    ∙ ap (λ i. s ++ marked m (take k (drop i (os ++ xs))) ∷ []) a
    ∙ ap (λ zs. s ++ marked m (take k zs) ∷ []) (drop-append_seam os xs)
    ∙ ap (λ zs. s ++ marked m zs ∷ []) (take_all k xs (omega (arith, b)))

pub parts-within : (os : List ℕ) (es fs : List WaitingEntry) → Within fs es → HaveParts os es
    → HaveParts os fs
parts-within os es fs i h =
    all_of (λ e. e.from + e.len ≤ length os) fs
    (λ x m. all_at (λ e. e.from + e.len ≤ length os) es x h (i x m))

second_less : {A : Type 0} (rs : List A) → Within (take 1 rs ++ drop 2 rs) rs
second_less [] x h = h
second_less (y ∷ []) x h = h
second_less (y ∷ z ∷ rs) x (inl e) = inl e
second_less (y ∷ z ∷ rs) x (inr h) = inr (inr h)

pub parts-other : (os : List ℕ) (es fs : List WaitingEntry)
    → reverse fs ≡ take 1 (reverse es) ++ drop 2 (reverse es) → HaveParts os es → HaveParts os fs
parts-other os es fs e h =
    parts-within os es fs (λ x m. (same-reverse es).1 x (second_less (reverse es) x
    (subst (λ zs. Has zs x) e (has-reverse fs x m)))) h

-- ---- what `ShelfBuilder` holds

pub all-settled : (ss ls ws s : List Entry) → IsStrictlySortedBy slot_cmp (ss ++ ls) → ls ≡ []
    → ws ≡ [] → kept (ss ++ (ls ++ ws)) ≡ s → ss ≡ s
all-settled ss ls ws s sorted l w h =
    let alone : IsStrictlySortedBy slot_cmp ss =
    subst (IsStrictlySortedBy slot_cmp) (ap (λ es. ss ++ es) l ∙ append-nil ss) sorted in
    sym (kept-sorted ss alone) ∙ ap kept (sym (append-nil ss))
    ∙ ap (λ es. kept (ss ++ (es ++ []))) (sym l)
    ∙ ap (λ es. kept (ss ++ (ls ++ es))) (sym w) ∙ h

pub settled-kept : (ss ls ws ds ms vs s : List Entry) → IsStrictlySortedBy slot_cmp (ss ++ ls)
    → ls ≡ [] → ws ≡ [] → kept (ss ++ (ls ++ ws)) ≡ kept (ds ++ (ms ++ vs))
    → kept (ds ++ (ms ++ vs)) ≡ s → ss ≡ kept s
settled-kept ss ls ws ds ms vs s sorted l w h v =
    all-settled ss ls ws _ sorted l w h ∙ sym (kept-kept (ds ++ (ms ++ vs))) ∙ ap kept v

-- a builder's parts before `put`: in order, with few entries waiting, and keeping s
pub record Ready (ss ls ws : List Entry) (waiting count : ℕ) (s : List Entry) : Type 0 where
  pub sorted : IsStrictlySortedBy slot_cmp (ss ++ ls)
  pub few : waiting < 64 + 2 * count
  pub counted : count ≤ length (kept (ss ++ (ls ++ ws)))
  pub same : kept (ss ++ (ls ++ ws)) ≡ s

pub ready-settled : (ss ls ws : List Entry) (waiting count : ℕ) (s : List Entry)
    → IsStrictlySortedBy slot_cmp (ss ++ ls) → ls ≡ [] → ws ≡ [] → waiting ≡ length ws
    → count ≡ length ss → kept (ss ++ (ls ++ ws)) ≡ s → Ready ss ls ws waiting count s
ready-settled ss ls ws waiting count s sorted l w n k h =
    let none : length ws ≡ 0 = ap length w in
    let all : length ss ≡ length (kept (ss ++ (ls ++ ws))) =
    ap length (all-settled ss ls ws _ sorted l w refl) in
    record {
      sorted = sorted;
      few = omega (arith, none, n);
      counted = omega (arith, k, all);
      same = h;
    }

put_more : (e : Entry) (ks : List Entry) → length ks ≤ length (put_by slot_cmp rank_cmp e ks)
put_more e [] = omega arith
put_more e (k ∷ ks) =
    elim (slot_cmp e k) as (λ o. slot_cmp e k ≡ o
    → length (k ∷ ks) ≤ length (put_by slot_cmp rank_cmp e (k ∷ ks))) [
      | Less ↦ λ h. let n = ap length (laws.put_less slot_cmp rank_cmp e k ks h) in
          omega (arith, n)
      | Equal ↦ λ h. let n = ap length (laws.put_equal slot_cmp rank_cmp e k ks h) in
          omega (arith, n)
      | Greater ↦ λ h. let n = ap length (laws.put_greater slot_cmp rank_cmp e k ks h) in
          omega (arith, n, put_more e ks)
    ] refl

kept-push : (ss ls ws xs : List Entry)
    → kept (ss ++ (ls ++ (ws ++ xs))) ≡ kept (kept (ss ++ (ls ++ ws)) ++ xs)
kept-push ss ls ws xs =
    ap (λ es. kept (ss ++ es)) (sym (append_assoc ls ws xs))
    ∙ ap kept (sym (append_assoc ss (ls ++ ws) xs))
    ∙ sym (kept-early (ss ++ (ls ++ ws)) xs)

pub one-more : (ws vs : List Entry) (o : Option Entry) → vs ≡ ws ++ option_to_list o
    → length vs ≤ length ws + 1
one-more ws vs None v = omega (arith, ap length v, length-append ws [])
one-more ws vs (Some e) v = omega (arith, ap length v, length-append ws (e ∷ []))

pub more-push : (ss ls ws vs : List Entry) (o : Option Entry) (count : ℕ)
    → vs ≡ ws ++ option_to_list o → count ≤ length (kept (ss ++ (ls ++ ws)))
    → count ≤ length (kept (ss ++ (ls ++ vs)))
more-push ss ls ws vs None count v h =
    let same = ap (λ es. length (kept (ss ++ (ls ++ es)))) (v ∙ append-nil ws) in
    omega (arith, h, same)
more-push ss ls ws vs (Some e) count v h =
    let ks = kept (ss ++ (ls ++ ws)) in
    let put : kept (ss ++ (ls ++ vs)) ≡ put_by slot_cmp rank_cmp e ks =
    ap (λ es. kept (ss ++ (ls ++ es))) v ∙ kept-push ss ls ws (e ∷ [])
    ∙ kept-swap ks (e ∷ []) ∙ ap (put_by slot_cmp rank_cmp e) (kept-kept (ss ++ (ls ++ ws))) in
    let n = ap length put in
    omega (arith, h, n, put_more e ks)

pub kept-put : (ss ls ws vs xs s : List Entry) → vs ≡ ws ++ xs → kept (ss ++ (ls ++ ws)) ≡ s
    → kept (kept (ss ++ (ls ++ vs))) ≡ kept (kept s ++ xs)
kept-put ss ls ws vs xs s v h =
    kept-kept (ss ++ (ls ++ vs)) ∙ ap (λ es. kept (ss ++ (ls ++ es))) v ∙ kept-push ss ls ws xs
    ∙ ap (λ es. kept (es ++ xs)) h ∙ sym (kept-early s xs)

-- ---- a shelf that is made of pages
