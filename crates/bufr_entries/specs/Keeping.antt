-- What is kept of a list: the member of greatest rank of each slot, in order of slots.
use Rattle.std.specs.Prelude.{◌≡◌, ◌⊎◌, Bool, false, not, ◌&&◌, if◌then◌else◌, Option, Some, None}
use Rattle.std.specs.Prelude.{List, [], ◌∷◌}
use Rattle.std.specs.List.{list_any}
use Rattle.std.specs.List.Sorted.{IsStrictlySortedBy}
use Rattle.std.specs.Ordering.{is_gt, is_eq}
use Rattle.std.specs.declared.cmp.Ordering.{Ordering}
use Rattle.std.specs.declared.cmp.Ordering.TheVariants.{Less, Equal, Greater}

module _ {A : Type 0} where
  -- x is in the list
  abbrev pub Has : List A → A → Type 0
  Has [] x = ⊥
  Has (y ∷ ys) x = (x ≡ y) ⊎ Has ys x

  -- each member of xs is one of ys
  abbrev pub Within : List A → List A → Type 0
  Within xs ys = (x : A) → Has xs x → Has ys x

  -- two lists have the same members
  abbrev pub SameMembers : List A → List A → Type 0
  SameMembers xs ys = Within xs ys × Within ys xs

  -- a list in order of slots with one more member; if its slot is taken, the greater rank stays
  abbrev pub put_by : (A → A → Ordering) → (A → A → Ordering) → A → List A → List A
  put_by slot rank e [] = e ∷ []
  put_by slot rank e (f ∷ fs) =
      elim (slot e f) [
        | Less ↦ e ∷ f ∷ fs
        | Equal ↦ (if is_gt (rank e f) then e else f) ∷ fs
        | Greater ↦ f ∷ put_by slot rank e fs
      ]

  -- the member of greatest rank of each slot, in order of slots
  abbrev pub kept_by : (A → A → Ordering) → (A → A → Ordering) → List A → List A
  kept_by slot rank [] = []
  kept_by slot rank (e ∷ es) = put_by slot rank e (kept_by slot rank es)

  -- the first list with each member of the second put in
  abbrev pub put_all : (A → A → Ordering) → (A → A → Ordering) → List A → List A → List A
  put_all slot rank ks [] = ks
  put_all slot rank ks (e ∷ es) = put_all slot rank (put_by slot rank e ks) es

  -- e changes what is kept if no entry of its slot has its rank or a greater one
  abbrev pub changes_by : (A → A → Ordering) → (A → A → Ordering) → List A → A → Bool
  changes_by slot rank entries e =
      not (list_any (λ f. is_eq (slot e f) && not (is_gt (rank e f))) entries)

  -- the first member, if there is one
  abbrev pub first_of : List A → Option A
  first_of [] = None
  first_of (x ∷ xs) = Some x

  -- e is a member, and no member of its slot has a greater rank
  pub record IsBest (slot rank : A → A → Ordering) (es : List A) (e : A) : Type 0 where
    pub member : Has es e
    pub best : (f : A) → Has es f → slot f e ≡ Equal → is_gt (rank f e) ≡ false

  -- ks is in order of slots, with no slot twice, and has the best members of es and no others
  pub record AreKept (slot rank : A → A → Ordering) (es ks : List A) : Type 0 where
    pub ordered : IsStrictlySortedBy slot ks
    pub only_best : (e : A) → Has ks e → IsBest slot rank es e
    pub all_best : (e : A) → IsBest slot rank es e → Has ks e
