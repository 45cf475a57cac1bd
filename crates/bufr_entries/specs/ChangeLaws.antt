-- `changes` is true exactly if one more entry changes what is kept: for `kept_is_the_best` and
-- `put`.
use Rattle.std.proofs.Common.{◌≡◌, ◌≢◌, inl, inr, Bool, true, false, not, ◌&&◌, ◌||◌, List, [], ◌∷◌}
use Rattle.std.proofs.Common.{◌++◌, refl, sym, ap, subst}
use Rattle.std.specs.List.{list_any}
use Rattle.std.specs.Ordering.{is_gt, is_eq}
use Rattle.std.specs.declared.cmp.Ordering.{Ordering}
use Rattle.std.specs.declared.cmp.Ordering.TheVariants.{Less, Equal, Greater}
use Rattle.bufr_entries.specs.Keeping.{Has}
use Rattle.bufr_entries.specs.KeepingLaws.{Covers, Keeps, Has-left, Has-right, Has-append}
use Rattle.bufr_entries.specs.KeepingLaws as laws
use Rattle.bufr_entries.specs.Entries.{slot_cmp, rank_cmp, kept, changes}
use Rattle.bufr_entries.specs.declared.entry.Entry.{Entry}
use Rattle.bufr_entries.specs.Orders.{slots_total, ranks_total, exact_entries}

-- f has the slot of e, and its rank or a greater one
abbrev covers : Entry → Entry → Bool
covers e f = is_eq (slot_cmp e f) && not (is_gt (rank_cmp e f))

equal_from : (o : Ordering) → is_eq o ≡ true → o ≡ Equal
equal_from Less h = cc
equal_from Equal h = refl
equal_from Greater h = cc

and_from : (a b : Bool) → (a && b) ≡ true → (a ≡ true) × (b ≡ true)
and_from true b h = (refl, h)
and_from false b h = cc

not_from : (b : Bool) → not b ≡ true → b ≡ false
not_from true h = cc
not_from false h = refl

covered : (es : List Entry) (e : Entry) → list_any (covers e) es ≡ true
    → Covers slot_cmp rank_cmp es e
covered [] e h = cc
covered (f ∷ es) e h =
    elim (covers e f) as (λ b. covers e f ≡ b → (b || list_any (covers e) es) ≡ true
    → Covers slot_cmp rank_cmp (f ∷ es) e) [
      | true ↦ λ c _. let p = and_from (is_eq (slot_cmp e f)) (not (is_gt (rank_cmp e f))) c in
          record {
            by = f;
            member = inl refl;
            same = equal_from (slot_cmp e f) p.0;
            up =
                not_from (is_gt (rank_cmp e f)) p.1;
          }
      | false ↦ λ _ k. let c = covered es e k in
          record { by = c.by; member = inr c.member; same = c.same; up = c.up }
    ] refl h

any_at : (p : Entry → Bool) (es : List Entry) (f : Entry) → Has es f → p f ≡ true
    → list_any p es ≡ true
any_at p [] f h k = absurd h
any_at p (g ∷ es) f (inl e) k = rw (subst (λ z. p z ≡ true) e k) refl
any_at p (g ∷ es) f (inr h) k =
    elim (p g) as (λ b. (b || list_any p es) ≡ true) [ true ↦ refl | false ↦ any_at p es f h k ]

covers_to : (es : List Entry) (e : Entry) → Covers slot_cmp rank_cmp es e
    → list_any (covers e) es ≡ true
covers_to es e c = any_at (covers e) es c.by c.member (rw (c.same, c.up) refl)

covers_kept : (es : List Entry) (e : Entry) → Covers slot_cmp rank_cmp es e
    → Covers slot_cmp rank_cmp (kept es) e
covers_kept es e c =
    let d = (laws.kept_keeps slot_cmp rank_cmp slots_total ranks_total es).covered c.by c.member in
    laws.covers_trans slot_cmp rank_cmp slots_total ranks_total (kept es) e c.by c.same c.up d

kept_covers : (es : List Entry) (e : Entry) → Covers slot_cmp rank_cmp (kept es) e
    → Covers slot_cmp rank_cmp es e
kept_covers es e c =
    record {
      by = c.by;
      member =
          (laws.kept_keeps slot_cmp rank_cmp slots_total ranks_total es).from c.by c.member;
      same =
          c.same;
      up = c.up;
    }

same_tests : (a b : Bool) → (a ≡ true → b ≡ true) → (b ≡ true → a ≡ true) → a ≡ b
same_tests true b f g = sym (f refl)
same_tests false true f g = g refl
same_tests false false f g = refl

pub changes-kept : (es : List Entry) (e : Entry) → changes (kept es) e ≡ changes es e
changes-kept es e = ap not (same_tests (list_any (covers e) (kept es)) (list_any (covers e) es)
    (λ h. covers_to es e (kept_covers es e (covered (kept es) e h)))
    (λ h. covers_to (kept es) e (covers_kept es e (covered es e h))))

pub kept-unchanged : (es : List Entry) (e : Entry) → changes es e ≡ false → kept (es ++ e ∷ [])
    ≡ kept es
kept-unchanged es e h =
    let c = covers_kept es e
    (covered es e (elim (list_any (covers e) es) as (λ b. not b ≡ false → b ≡ true)
    [ true ↦ λ _. refl | false ↦ λ z. cc ] h)) in
    let k = laws.kept_keeps slot_cmp rank_cmp slots_total ranks_total es in
    let one : Keeps slot_cmp rank_cmp (es ++ e ∷ []) (kept es) = record {
      ordered = k.ordered;
      from = λ x m. Has-left es (e ∷ []) x (k.from x m);
      covered = λ x m. elim (Has-append es (e ∷ []) x m) [
        | inl i ↦ k.covered x i
        | inr j ↦ elim j [
          | inl q ↦ subst (Covers slot_cmp rank_cmp (kept es)) (sym q) c
          | inr z ↦
              absurd z
        ]
      ];
    } in
    laws.keeps_one slot_cmp rank_cmp slots_total ranks_total exact_entries (es ++ e ∷ []) _ _
    (laws.kept_keeps slot_cmp rank_cmp slots_total ranks_total (es ++ e ∷ [])) one

pub kept-changed : (es : List Entry) (e : Entry) → changes es e ≡ true
    → kept (es ++ e ∷ []) ≢ kept es
kept-changed es e h same =
    let c = (laws.kept_keeps slot_cmp rank_cmp slots_total ranks_total (es ++ e ∷ [])).covered e
    (Has-right es (e ∷ []) e (inl refl)) in
    let d : list_any (covers e) es ≡ true =
    covers_to es e (kept_covers es e (subst (λ ks. Covers slot_cmp rank_cmp ks e) same c)) in
    let n : not (list_any (covers e) es) ≡ false = ap not d in
    cc
