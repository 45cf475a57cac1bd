-- Groups of rows, and the rows in order.
use Rattle.std.proofs.Common.{◌≡◌, ◌≢◌, ◌∙◌, inl, inr, ℕ, List, [], ◌∷◌, ◌++◌, map, get_or, Option}
use Rattle.std.proofs.Common.{Some, None, refl, sym, ap, append_assoc}
use Rattle.std.specs.Prelude.{All, Contains}
use Rattle.std.proofs.lemmas.Grind.{flat_map-append}
use Rattle.std.proofs.lemmas.List.{append-nil, map-append}
use Rattle.std.proofs.lemmas.List.Elements.{Contains-get_or, Contains-append_left}
use Rattle.std.proofs.lemmas.List.Elements.{Contains-append_right, Contains-append_cases, All-nil}
use Rattle.std.proofs.lemmas.List.Elements.{All-push, All-contains}
use Rattle.bufr_tables.specs.Entries.{at}
use Rattle.bufr_tables.specs.Sheets.{AreGroups, written_out}
use Rattle.bufr_tables.proofs.MemberFacts.{contains-none, contains-first, contains-more}
use Rattle.bufr_tables.proofs.MemberFacts.{contains-cases, at-contained}

pub all-by : {X : Type 0} (P : X → Type 0) (xs : List X) → ((x : X) → Contains xs x → P x)
    → All P xs
all-by P xs f k d l = f (get_or xs k d) (Contains-get_or xs k d l)

pub not-at : {X : Type 0} (d : ℕ) (es : List (ℕ × X)) → ((v : X) → Contains es (d, v) → ⊥)
    → at d es ≡ None
not-at {X} d es n = by_entry (at d es) refl
  where
    by_entry : (o : Option X) → at d es ≡ o → at d es ≡ None
    by_entry None e = e
    by_entry (Some v) e = absurd (n v (at-contained d v es e))

pub last-of : {X : Type 0} (xs : List X) → xs ≢ []
    → (front : List X) × (x : X) × (xs ≡ front ++ x ∷ [])
last-of [] n = absurd (n refl)
last-of (x ∷ []) n = ([], x, refl)
last-of {X} (x ∷ y ∷ ys) n =
    let h = last-of (y ∷ ys) (λ q. absurd (cc)) in (x ∷ h.0, h.1, ap (λ (t : List X). x ∷ t) h.2)

pub no-push : {X : Type 0} (xs : List X) (x : X) → [] ≡ xs ++ x ∷ [] → ⊥
no-push [] x h = cc
no-push (y ∷ xs) x h = cc

pub last-only : {X : Type 0} (xs ys : List X) (x y : X) → xs ++ x ∷ [] ≡ ys ++ y ∷ [] → x ≡ y
last-only [] [] x y h = cc
last-only [] (b ∷ ys) x y h = absurd (no-push ys y (cc))
last-only (a ∷ xs) [] x y h = absurd (let e : xs ++ x ∷ [] ≡ [] = cc in no-push xs x (sym e))
last-only (a ∷ xs) (b ∷ ys) x y h = last-only xs ys x y (cc)

pub groups-push : (groups : List (ℕ × List ℕ)) (d : ℕ) (list : List ℕ) → AreGroups groups
    → All (λ g. g.0 ≢ d) groups → list ≢ [] → AreGroups (groups ++ (d, list) ∷ [])
groups-push [] d list h a n = (n, All-nil (λ (g : ℕ × List ℕ). g.0 ≢ d), tt)
groups-push (g ∷ groups) d list h a n = (
  h.0,
  All-push (λ (other : ℕ × List ℕ). other.0 ≢ g.0) groups (d, list) h.1
      (λ q. All-contains (λ (x : ℕ × List ℕ). x.0 ≢ d) (g ∷ groups) g a (contains-first g groups)
      (sym q)),
  groups-push groups d list h.2
      (all-by (λ (x : ℕ × List ℕ). x.0 ≢ d) groups
      (λ x m. All-contains (λ (x : ℕ × List ℕ). x.0 ≢ d) (g ∷ groups) x a
      (contains-more g x groups m))) n,
)

pub groups-split : (before : List (ℕ × List ℕ)) (g : ℕ × List ℕ) (behind : List (ℕ × List ℕ))
    → AreGroups (before ++ g ∷ behind) → All (λ x. x.0 ≢ g.0) before × (g.1 ≢ []) × AreGroups before
groups-split [] g behind h = (All-nil (λ (x : ℕ × List ℕ). x.0 ≢ g.0), h.0, tt)
groups-split (a ∷ before) g behind h =
    let rest = groups-split before g behind h.2 in (
      all-by (λ (x : ℕ × List ℕ). x.0 ≢ g.0) (a ∷ before)
          (λ x m. elim (contains-cases a x before m) [
            | inl e ↦
                λ q. All-contains (λ (other : ℕ × List ℕ). other.0 ≢ a.0)
                (before ++ g ∷ behind) g h.1
                (Contains-append_right before (g ∷ behind) g (contains-first g behind))
                (sym (ap (λ (p : ℕ × List ℕ). p.0) e ∙ q))
            | inr k ↦ All-contains (λ (x : ℕ × List ℕ). x.0 ≢ g.0) before x rest.0 k
          ]),
      rest.1,
      (
        h.0,
        all-by (λ (x : ℕ × List ℕ). x.0 ≢ a.0) before
            (λ x m. All-contains (λ (other : ℕ × List ℕ). other.0 ≢ a.0)
            (before ++ g ∷ behind) x h.1
            (Contains-append_left before (g ∷ behind) x m)),
        rest.2,
      ),
    )

pub groups-members : (groups : List (ℕ × List ℕ)) (x : ℕ × List ℕ) → AreGroups groups
    → Contains groups x → x.1 ≢ []
groups-members [] x h m = absurd (contains-none x m)
groups-members (g ∷ groups) x h m =
    elim (contains-cases g x groups m) [
      | inl e ↦ λ q. h.0 (ap (λ (p : ℕ × List ℕ). p.1) e ∙ q)
      | inr k ↦
          groups-members groups x h.2 k
    ]

pub written-append : (xs ys : List (ℕ × List ℕ))
    → written_out (xs ++ ys) ≡ written_out xs ++ written_out ys
written-append xs ys = flat_map-append (λ (g : ℕ × List ℕ). map (λ (m : ℕ). (g.0, m)) g.1) xs ys

pub written-more : (front : List (ℕ × List ℕ)) (d : ℕ) (list : List ℕ) (m : ℕ)
    → written_out (front ++ (d, list ++ m ∷ []) ∷ [])
    ≡ written_out (front ++ (d, list) ∷ []) ++ (d, m) ∷ []
written-more front d list m =
    written-append front ((d, list ++ m ∷ []) ∷ [])
    ∙ ap (λ (t : List (ℕ × ℕ)). written_out front ++ t)
    (append-nil (map (λ (k : ℕ). (d, k)) (list ++ m ∷ []))
    ∙ map-append (λ (k : ℕ). (d, k)) list (m ∷ []))
    ∙ sym (append_assoc (written_out front) (map (λ (k : ℕ). (d, k)) list) ((d, m) ∷ []))
    ∙ ap (λ (t : List (ℕ × ℕ)). t ++ (d, m) ∷ [])
    (ap (λ (t : List (ℕ × ℕ)). written_out front ++ t)
    (sym (append-nil (map (λ (k : ℕ). (d, k)) list)))
    ∙ sym (written-append front ((d, list) ∷ [])))

pub written-last : (front : List (ℕ × List ℕ)) (d : ℕ) (list : List ℕ) → list ≢ []
    → (some : List ℕ) × (m : ℕ) × (written_out (front ++ (d, list) ∷ [])
    ≡ (written_out front ++ map (λ k. (d, k)) some) ++ (d, m) ∷ [])
written-last front d list n =
    let h = last-of list n in (
      h.0,
      h.1,
      ap (λ (t : List ℕ). written_out (front ++ (d, t) ∷ [])) h.2 ∙ written-more front d h.0 h.1
          ∙ ap (λ (t : List (ℕ × ℕ)). t ++ (d, h.1) ∷ [])
          (written-append front ((d, h.0) ∷ [])
          ∙ ap (λ (t : List (ℕ × ℕ)). written_out front ++ t)
          (append-nil (map (λ (k : ℕ). (d, k)) h.0))),
    )

mapped : (d : ℕ) (list : List ℕ) (row : ℕ × ℕ) → Contains (map (λ k. (d, k)) list) row → row.0 ≡ d
mapped d [] row h = absurd (contains-none row h)
mapped d (m ∷ list) row h =
    elim (contains-cases (d, m) row (map (λ k. (d, k)) list) h)
    [ inl e ↦ sym (ap (λ (p : ℕ × ℕ). p.0) e) | inr k ↦ mapped d list row k ]

pub written-from : (groups : List (ℕ × List ℕ)) (d m : ℕ) → Contains (written_out groups) (d, m)
    → (list : List ℕ) × Contains groups (d, list)
written-from [] d m h = absurd (contains-none (d, m) h)
written-from (g ∷ groups) d m h =
    elim (Contains-append_cases (map (λ k. (g.0, k)) g.1) (written_out groups) (d, m) h) [
      | inl l ↦ (g.1, let e : d ≡ g.0 = mapped g.0 g.1 (d, m) l in rw e (contains-first g groups))
      | inr r ↦ let k = written-from groups d m r in (k.0, contains-more g (d, k.0) groups k.1)
    ]

pub written-member : (groups : List (ℕ × List ℕ)) (d m : ℕ) (list : List ℕ)
    → Contains groups (d, m ∷ list) → Contains (written_out groups) (d, m)
written-member [] d m list h = absurd (contains-none (d, m ∷ list) h)
written-member (g ∷ groups) d m list h =
    elim (contains-cases g (d, m ∷ list) groups h) [
      | inl e ↦
          rw e
          (Contains-append_left (map (λ k. (d, k)) (m ∷ list)) (written_out groups) (d, m)
          (contains-first (d, m) (map (λ k. (d, k)) list)))
      | inr k ↦
          Contains-append_right (map (λ k. (g.0, k)) g.1) (written_out groups) (d, m)
          (written-member groups d m list k)
    ]
