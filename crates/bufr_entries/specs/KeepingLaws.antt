-- Laws of what is kept, for any total orders of slots and ranks: for `kept_is_the_best`,
-- `joins_agree` and `sorted_are_kept`.
use Rattle.std.proofs.Common.{◌≡◌, ◌⊎◌, inl, inr, true, false, cond, List, [], ◌∷◌, ◌++◌, refl, sym}
use Rattle.std.proofs.Common.{ap, ◌∙◌, subst, append_assoc}
use Rattle.std.specs.List.{AllByRecursion}
use Rattle.std.specs.List.Sorted.{IsStrictlySortedBy}
use Rattle.std.specs.Ordering.{is_gt, ordering_reverse}
use Rattle.std.specs.Cmp.{IsTotalOrder, tied_itself}
use Rattle.std.proofs.lemmas.Cmp.{upto}
use Rattle.std.specs.declared.cmp.Ordering.{Ordering}
use Rattle.std.specs.declared.cmp.Ordering.TheVariants.{Less, Equal, Greater}
use Rattle.bufr_entries.specs.Keeping.{Has, Within, SameMembers, put_by, kept_by, AreKept}

module _ {A : Type 0} where
  pub Has-left : (xs ys : List A) (x : A) → Has xs x → Has (xs ++ ys) x
  Has-left [] ys x h = absurd h
  Has-left (a ∷ xs) ys x (inl e) = inl e
  Has-left (a ∷ xs) ys x (inr h) = inr (Has-left xs ys x h)

  pub Has-right : (xs ys : List A) (x : A) → Has ys x → Has (xs ++ ys) x
  Has-right [] ys x h = h
  Has-right (a ∷ xs) ys x h = inr (Has-right xs ys x h)

  pub Has-append : (xs ys : List A) (x : A) → Has (xs ++ ys) x → Has xs x ⊎ Has ys x
  Has-append [] ys x h = inr h
  Has-append (a ∷ xs) ys x (inl e) = inl (inl e)
  Has-append (a ∷ xs) ys x (inr h) =
      elim (Has-append xs ys x h) [ inl k ↦ inl (inr k) | inr k ↦ inr k ]

  pub Within-append : (xs ys zs : List A) → Within xs zs → Within ys zs → Within (xs ++ ys) zs
  Within-append xs ys zs p q x h = elim (Has-append xs ys x h) [ inl k ↦ p x k | inr k ↦ q x k ]

module _ {A : Type 0} (slot rank : A → A → Ordering) where
  -- a member of ks has the slot of e, and its rank or a greater one
  pub record Covers (ks : List A) (e : A) : Type 0 where
    pub by : A
    pub member : Has ks by
    pub same : slot e by ≡ Equal
    pub up : is_gt (rank e by) ≡ false

  pub record Keeps (es ks : List A) : Type 0 where
    pub ordered : IsStrictlySortedBy slot ks
    pub from : Within ks es
    pub covered : (e : A) → Has es e → Covers ks e

module _ {A : Type 0} (slot rank : A → A → Ordering) where
  pub put_less : (e f : A) (fs : List A) → slot e f ≡ Less → put_by slot rank e (f ∷ fs)
      ≡ e ∷ f ∷ fs
  put_less e f fs h = rw (h, put_by) refl

  pub put_equal : (e f : A) (fs : List A) → slot e f ≡ Equal → put_by slot rank e (f ∷ fs)
      ≡ cond (is_gt (rank e f)) e f ∷ fs
  put_equal e f fs h = rw (h, put_by) refl

  pub put_greater : (e f : A) (fs : List A) → slot e f ≡ Greater → put_by slot rank e (f ∷ fs)
      ≡ f ∷ put_by slot rank e fs
  put_greater e f fs h = rw (h, put_by) refl

  all_put : (P : A → Type 0) (e : A) (fs : List A) → P e → AllByRecursion P fs
      → AllByRecursion P (put_by slot rank e fs)
  all_put P e [] p ps = (p, tt)
  all_put P e (f ∷ fs) p ps =
      elim (slot e f) as (λ o. slot e f ≡ o → AllByRecursion P (put_by slot rank e (f ∷ fs))) [
        | Less ↦ λ h. rw (put_less e f fs h) (p, ps)
        | Equal ↦ λ h. rw (put_equal e f fs h)
            (elim (is_gt (rank e f)) as (λ b. P (cond b e f)) [ true ↦ p | false ↦ ps.0 ], ps.1)
        | Greater ↦ λ h. rw (put_greater e f fs h) (ps.0, all_put P e fs p ps.1)
      ] refl

  all_weaker : (P Q : A → Type 0) → ((x : A) → P x → Q x) → (xs : List A) → AllByRecursion P xs
      → AllByRecursion Q xs
  all_weaker P Q f [] a = tt
  all_weaker P Q f (x ∷ xs) a = (f x a.0, all_weaker P Q f xs a.1)

  all_has : (P : A → Type 0) (xs : List A) (x : A) → AllByRecursion P xs → Has xs x → P x
  all_has P [] x a h = absurd h
  all_has P (y ∷ xs) x a (inl e) = subst P (sym e) a.0
  all_has P (y ∷ xs) x a (inr h) = all_has P xs x a.1 h

  Has-put : (e : A) (ks : List A) (x : A) → Has (put_by slot rank e ks) x → (x ≡ e) ⊎ Has ks x
  Has-put e [] x (inl h) = inl h
  Has-put e [] x (inr h) = absurd h
  Has-put e (f ∷ fs) x h =
      elim (slot e f) as (λ o. slot e f ≡ o → (x ≡ e) ⊎ Has (f ∷ fs) x) [
        | Less ↦ λ s. let k : Has (e ∷ f ∷ fs) x = rw (put_less e f fs s) at h in k
        | Equal ↦ λ s. let k : Has (cond (is_gt (rank e f)) e f ∷ fs) x =
            rw (put_equal e f fs s) at h in
            elim k [
              | inl q ↦ elim (is_gt (rank e f)) as (λ b. x ≡ cond b e f
                  → (x ≡ e) ⊎ Has (f ∷ fs) x) [ true ↦ λ q. inl q | false ↦ λ q. inr (inl q) ] q
              | inr
                  m ↦ inr (inr m)
            ]
        | Greater ↦ λ s. let k : Has (f ∷ put_by slot rank e fs) x =
            rw (put_greater e f fs s) at h in
            elim k [
              | inl q ↦ inr (inl q)
              | inr m ↦ elim (Has-put e fs x m)
                  [ inl q ↦ inl q | inr n ↦ inr (inr n) ]
            ]
      ] refl

  module _ (so : IsTotalOrder slot) (ro : IsTotalOrder rank) where
    pub put_ordered : (e : A) (ks : List A) → IsStrictlySortedBy slot ks
        → IsStrictlySortedBy slot (put_by slot rank e ks)
    unfolding IsStrictlySortedBy
    put_ordered e [] s = (tt, tt)
    put_ordered e (f ∷ fs) s =
        elim (slot e f) as (λ o. slot e f ≡ o
        → IsStrictlySortedBy slot (put_by slot rank e (f ∷ fs))) [
          | Less ↦ λ h. rw (put_less e f fs h) (
            (
              h,
              all_weaker (λ y. slot f y ≡ Less) (λ y. slot e y ≡ Less)
                  (λ y k. so.trans e f y h k) fs s.0,
            ),
            s,
          )
          | Equal ↦ λ h. rw (put_equal e f fs h) (
            elim (is_gt (rank e f)) as (λ b. AllByRecursion (λ y. slot (cond b e f) y ≡ Less) fs) [
              | true ↦ all_weaker (λ y. slot f y ≡ Less) (λ y. slot e y ≡ Less)
                  (λ y k. so.congr e f y h ∙ k) fs s.0
              | false ↦ s.0
            ],
            s.1,
          )
          | Greater ↦ λ h. rw (put_greater e f fs h) (
            all_put (λ y. slot f y ≡ Less) e fs (so.antisymm f e ∙ ap ordering_reverse h) s.0,
            put_ordered e fs s.1,
          )
        ] refl

    pub covers_trans : (ks : List A) (e f : A) → slot e f ≡ Equal → is_gt (rank e f) ≡ false
        → Covers slot rank ks f → Covers slot rank ks e
    covers_trans ks e f s r c =
        record {
          by = c.by;
          member = c.member;
          same = so.congr e f c.by s ∙ c.same;
          up =
              upto ro e f c.by r c.up;
        }

    pub covers_self : (ks : List A) (e : A) → Has ks e → Covers slot rank ks e
    covers_self ks e h =
        record { by = e; member = h; same = tied_itself so e; up = ap is_gt (tied_itself ro e) }

    covers_more : (ks : List A) (f e : A) → Covers slot rank ks e → Covers slot rank (f ∷ ks) e
    covers_more ks f e c = record { by = c.by; member = inr c.member; same = c.same; up = c.up }

    not_up : (x y : A) → is_gt (rank x y) ≡ true → is_gt (rank y x) ≡ false
    not_up x y h =
        rw (ro.antisymm y x)
        (elim (rank x y) as (λ o. is_gt o ≡ true → is_gt (ordering_reverse o) ≡ false)
        [ Less ↦ λ k. cc | Equal ↦ λ k. cc | Greater ↦ λ k. refl ] h)

    put_covers : (e : A) (ks : List A) → Covers slot rank (put_by slot rank e ks) e
    put_covers e [] = covers_self (e ∷ []) e (inl refl)
    put_covers e (f ∷ fs) =
        elim (slot e f) as (λ o. slot e f ≡ o → Covers slot rank (put_by slot rank e (f ∷ fs)) e) [
          | Less ↦ λ h. rw (put_less e f fs h) (covers_self (e ∷ f ∷ fs) e (inl refl))
          | Equal ↦ λ h. rw (put_equal e f fs h)
              (elim (is_gt (rank e f)) as (λ b. is_gt (rank e f) ≡ b
              → Covers slot rank (cond b e f ∷ fs) e) [
                | true ↦ λ _. covers_self (e ∷ fs) e (inl refl)
                | false ↦ λ r. record
                    { by = f; member = inl refl; same = h; up = r }
              ] refl)
          | Greater ↦ λ h. rw (put_greater e f fs h) (covers_more _ f e (put_covers e fs))
        ] refl

    put_covers_old : (e : A) (ks : List A) (x : A) → Has ks x
        → Covers slot rank (put_by slot rank e ks) x
    put_covers_old e [] x m = absurd m
    put_covers_old e (f ∷ fs) x m =
        elim (slot e f) as (λ o. slot e f ≡ o → Covers slot rank (put_by slot rank e (f ∷ fs)) x) [
          | Less ↦ λ h. rw (put_less e f fs h) (covers_self (e ∷ f ∷ fs) x (inr m))
          | Equal ↦ λ h. rw (put_equal e f fs h) (elim m [
            | inl q ↦ elim (is_gt (rank e f)) as (λ b. is_gt (rank e f) ≡ b
                → Covers slot rank (cond b e f ∷ fs) x) [
                  | true ↦ λ r. record {
                    by = e;
                    member = inl refl;
                    same =
                        rw q (so.antisymm f e ∙ ap ordering_reverse h);
                    up = rw q (not_up e f r);
                  }
                  | false ↦ λ _. covers_self (f ∷ fs) x (inl q)
                ] refl
            | inr n ↦ covers_self _ x (inr n)
          ])
          | Greater ↦ λ h. rw (put_greater e f fs h)
              (elim m [
                | inl q ↦ covers_self _ x (inl q)
                | inr n ↦ covers_more _ f x
                    (put_covers_old e fs x n)
              ])
        ] refl

    pub kept_keeps : (es : List A) → Keeps slot rank es (kept_by slot rank es)
    unfolding IsStrictlySortedBy
    kept_keeps [] = record { ordered = tt; from = λ x h. h; covered = λ e h. absurd h }
    kept_keeps (e ∷ es) =
        let k = kept_keeps es in
        record {
          ordered = put_ordered e (kept_by slot rank es) k.ordered;
          from = λ x h. elim (Has-put e (kept_by slot rank es) x h)
              [ inl q ↦ inl q | inr m ↦ inr (k.from x m) ];
          covered = λ x h. elim h [
            | inl q ↦ subst (Covers slot rank (put_by slot rank e (kept_by slot rank es))) (sym q)
                (put_covers e (kept_by slot rank es))
            | inr m ↦ let c = k.covered x m in
                covers_trans _ x c.by c.same c.up
                (put_covers_old e (kept_by slot rank es) c.by c.member)
          ];
        }

    less_apart : (x y : A) → slot x y ≡ Less → slot y x ≡ Less → ⊥
    less_apart x y h k = let e : slot x y ≡ Greater = so.antisymm x y ∙ ap ordering_reverse k in cc

    less_same : (x y : A) → x ≡ y → slot x y ≡ Less → ⊥
    less_same x y q h = let one : slot x x ≡ Less = subst (λ z. slot x z ≡ Less) (sym q) h in
        let two : slot x x ≡ Equal = tied_itself so x in cc

    same_ordered : (xs ys : List A) → IsStrictlySortedBy slot xs → IsStrictlySortedBy slot ys
        → Within xs ys → Within ys xs → xs ≡ ys
    unfolding IsStrictlySortedBy
    same_ordered [] [] s t p q = refl
    same_ordered [] (y ∷ ys) s t p q = absurd (q y (inl refl))
    same_ordered (x ∷ xs) [] s t p q = absurd (p x (inl refl))
    same_ordered (x ∷ xs) (y ∷ ys) s t p q =
        let head : x ≡ y = elim (p x (inl refl)) [
          | inl e ↦ e
          | inr m ↦ elim (q y (inl refl)) [
            | inl e ↦ sym e
            | inr n ↦ absurd
                (less_apart y x (all_has (λ z. slot y z ≡ Less) ys x t.0 m)
                (all_has (λ z. slot x z ≡ Less) xs y s.0 n))
          ]
        ] in
        let tail : xs ≡ ys = same_ordered xs ys s.1 t.1
        (λ z m. elim (p z (inr m)) [
          | inr n ↦ n
          | inl e ↦ absurd
              (less_same x z (head ∙ sym e) (all_has (λ z. slot x z ≡ Less) xs z s.0 m))
        ])
        (λ z m. elim (q z (inr m)) [
          | inr n ↦ n
          | inl e ↦ absurd
              (less_same y z (sym head ∙ sym e) (all_has (λ z. slot y z ≡ Less) ys z t.0 m))
        ]) in
        ap (λ (c : A × List A). c.0 ∷ c.1) (ap (λ z. (z, xs)) head ∙ ap (λ zs. (y, zs)) tail)

    same_slot : (ks : List A) (x y : A) → IsStrictlySortedBy slot ks → Has ks x → Has ks y
        → slot x y ≡ Equal → x ≡ y
    unfolding IsStrictlySortedBy
    same_slot [] x y s h k e = absurd h
    same_slot (a ∷ ks) x y s (inl h) (inl k) e = h ∙ sym k
    same_slot (a ∷ ks) x y s (inl h) (inr k) e = let l : slot a y ≡ Less =
        all_has (λ z. slot a z ≡ Less) ks y s.0 k in let m : slot x y ≡ Less = rw h l in cc
    same_slot (a ∷ ks) x y s (inr h) (inl k) e = let l : slot a x ≡ Less =
        all_has (λ z. slot a z ≡ Less) ks x s.0 h in let m : slot y x ≡ Less = rw k l in
        let n : slot x y ≡ Greater = so.antisymm x y ∙ ap ordering_reverse m in cc
    same_slot (a ∷ ks) x y s (inr h) (inr k) e = same_slot ks x y s.1 h k e

    flipped : (x y : A) → slot x y ≡ Equal → slot y x ≡ Equal
    flipped x y h = so.antisymm y x ∙ ap ordering_reverse h

    even : (x y : A) → is_gt (rank x y) ≡ false → is_gt (rank y x) ≡ false → rank x y ≡ Equal
    even x y h k = elim (rank x y) as (λ o. rank x y ≡ o → is_gt o ≡ false → o ≡ Equal) [
      | Less ↦ λ r _. let g : is_gt (rank y x) ≡ true =
          ap is_gt (ro.antisymm y x ∙ ap ordering_reverse r) in cc
      | Equal ↦ λ _ _. refl
      | Greater ↦ λ _ z. cc
    ] refl h

    pub kept_are_best : (es : List A)
        → ((x y : A) → Has es x → Has es y → slot x y ≡ Equal → rank x y ≡ Equal → x ≡ y)
        → AreKept slot rank es (kept_by slot rank es)
    kept_are_best es exact = let k = kept_keeps es in record {
      ordered = k.ordered;
      only_best = λ e m. record {
        member = k.from e m;
        best = λ f h s. let c = k.covered f h in
            let same : e ≡ c.by =
            same_slot (kept_by slot rank es) e c.by k.ordered m c.member
            (so.congr e f c.by (flipped f e s) ∙ c.same) in
            subst (λ z. is_gt (rank f z) ≡ false) (sym same) c.up;
      };
      all_best = λ e b. let c = k.covered e b.member in
          let there = k.from c.by c.member in
          let down : is_gt (rank c.by e) ≡ false =
          b.best c.by there (flipped e c.by c.same) in
          subst (Has (kept_by slot rank es))
          (sym (exact e c.by b.member there c.same (even e c.by c.up down))) c.member;
    }

    module _ (exact : (x y : A) → slot x y ≡ Equal → rank x y ≡ Equal → x ≡ y) where
      keeps_within : (es ks ls : List A) → Keeps slot rank es ks → Keeps slot rank es ls
          → Within ks ls
      keeps_within es ks ls k l x m =
          let there = l.covered x (k.from x m) in
          let back = k.covered there.by (l.from there.by there.member) in
          let same : x ≡ back.by =
          same_slot ks x back.by k.ordered m back.member
          (so.congr x there.by back.by there.same ∙ back.same) in
          let down : is_gt (rank there.by x) ≡ false =
          subst (λ z. is_gt (rank there.by z) ≡ false) (sym same) back.up in
          subst (Has ls) (sym (exact x there.by there.same (even x there.by there.up down)))
          there.member

      pub keeps_one : (es ks ls : List A) → Keeps slot rank es ks → Keeps slot rank es ls → ks ≡ ls
      keeps_one es ks ls k l =
          same_ordered ks ls k.ordered l.ordered (keeps_within es ks ls k l)
          (keeps_within es ls ks l k)

      keeps_same : (es fs ks : List A) → SameMembers es fs → Keeps slot rank es ks
          → Keeps slot rank fs ks
      keeps_same es fs ks s k =
          record {
            ordered = k.ordered;
            from = λ x m. s.0 x (k.from x m);
            covered =
                λ x m. k.covered x (s.1 x m);
          }

      pub kept_same : (es fs : List A) → SameMembers es fs → kept_by slot rank es
          ≡ kept_by slot rank fs
      kept_same es fs s = keeps_one fs _ _ (keeps_same es fs _ s (kept_keeps es)) (kept_keeps fs)

      keeps_kept : (es gs ks ms : List A) → Keeps slot rank es ks → Keeps slot rank (ks ++ gs) ms
          → Keeps slot rank (es ++ gs) ms
      keeps_kept es gs ks ms k m = record {
        ordered = m.ordered;
        from = λ x h. elim (Has-append ks gs x (m.from x h))
            [ inl i ↦ Has-left es gs x (k.from x i) | inr j ↦ Has-right es gs x j ];
        covered = λ x h. elim (Has-append es gs x h) [
          | inl i ↦ let c = k.covered x i in
              covers_trans ms x c.by c.same c.up (m.covered c.by (Has-left ks gs c.by c.member))
          | inr j ↦ m.covered x (Has-right ks gs x j)
        ];
      }

      pub kept_early : (es gs : List A) → kept_by slot rank (kept_by slot rank es ++ gs)
          ≡ kept_by slot rank (es ++ gs)
      kept_early es gs =
          keeps_one (es ++ gs) _ _ (keeps_kept es gs _ _ (kept_keeps es)
          (kept_keeps (kept_by slot rank es ++ gs))) (kept_keeps (es ++ gs))

      pub kept_swap : (es gs : List A) → kept_by slot rank (es ++ gs) ≡ kept_by slot rank (gs ++ es)
      kept_swap es gs =
          kept_same (es ++ gs) (gs ++ es) (
            Within-append es gs (gs ++ es) (Has-right gs es)
                (Has-left gs es),
            Within-append gs es (es ++ gs) (Has-right es gs) (Has-left es gs),
          )

      pub kept_late : (es gs : List A) → kept_by slot rank (es ++ kept_by slot rank gs)
          ≡ kept_by slot rank (es ++ gs)
      kept_late es gs = kept_swap es (kept_by slot rank gs) ∙ kept_early gs es ∙ kept_swap gs es

      pub kept_twice : (es : List A) → kept_by slot rank (es ++ es) ≡ kept_by slot rank es
      kept_twice es =
          kept_same (es ++ es) es (Within-append es es es (λ x h. h) (λ x h. h), Has-left es es)

      pub kept_join : (a b c : List A) → kept_by slot rank (kept_by slot rank (a ++ b) ++ c)
          ≡ kept_by slot rank (a ++ kept_by slot rank (b ++ c))
      kept_join a b c = kept_early (a ++ b) c ∙ ap (kept_by slot rank) (append_assoc a b c)
          ∙ sym (kept_late a (b ++ c))

      pub kept_are : (es : List A) → AreKept slot rank es (kept_by slot rank es)
      kept_are es = kept_are_best es (λ x y _ _ s r. exact x y s r)

      pub kept_only : (es ks : List A) → AreKept slot rank es ks → ks ≡ kept_by slot rank es
      kept_only es ks a = let k = kept_are es in
          same_ordered ks (kept_by slot rank es) a.ordered k.ordered
          (λ x m. k.all_best x (a.only_best x m)) (λ x m. a.all_best x (k.only_best x m))

      pub kept_sorted : (ks : List A) → IsStrictlySortedBy slot ks → kept_by slot rank ks ≡ ks
      kept_sorted ks s = keeps_one ks _ _ (kept_keeps ks) (record {
        ordered = s;
        from = λ x h. h;
        covered = λ e h. covers_self ks e h;
      })

-- the fine order decides at least what the coarse one does
abbrev pub IsFiner : {A : Type 0} → (A → A → Ordering) → (A → A → Ordering) → Type 0
IsFiner {A} coarse fine = (x y : A) → coarse x y ≡ Less → fine x y ≡ Less

all_finer : {A : Type 0} (P Q : A → Type 0) → ((x : A) → P x → Q x) → (xs : List A)
    → AllByRecursion P xs → AllByRecursion Q xs
all_finer P Q f [] a = tt
all_finer P Q f (x ∷ xs) a = (f x a.0, all_finer P Q f xs a.1)

sorted_finer : {A : Type 0} (coarse fine : A → A → Ordering) → IsFiner coarse fine
    → (ks : List A) → IsStrictlySortedBy coarse ks → IsStrictlySortedBy fine ks
unfolding IsStrictlySortedBy
sorted_finer coarse fine finer [] s = tt
sorted_finer coarse fine finer (k ∷ ks) s = (
  all_finer (λ y. coarse k y ≡ Less) (λ y. fine k y ≡ Less) (λ y h. finer k y h) ks s.0,
  sorted_finer coarse fine finer ks s.1,
)

pub kept_finer : {A : Type 0} (coarse fine rank : A → A → Ordering) → IsTotalOrder coarse
    → IsTotalOrder fine → IsTotalOrder rank
    → ((x y : A) → fine x y ≡ Equal → rank x y ≡ Equal → x ≡ y) → IsFiner coarse fine
    → (es : List A) → kept_by fine rank (kept_by coarse rank es) ≡ kept_by coarse rank es
kept_finer coarse fine rank co fo ro exact finer es =
    let ks = kept_by coarse rank es in
    let sorted = (kept_keeps coarse rank co ro es).ordered in
    kept_sorted fine rank fo ro exact ks (sorted_finer coarse fine finer ks sorted)
