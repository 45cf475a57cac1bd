-- The merge of two lists in order of slots.
use Rattle.std.specs.Prelude.{if◌then◌else◌, Option, Some, None, List, [], ◌∷◌}
use Rattle.std.specs.Ordering.{is_gt}
use Rattle.std.specs.declared.cmp.Ordering.{Ordering}
use Rattle.std.specs.declared.cmp.Ordering.TheVariants.{Less, Equal, Greater}

module _ {A : Type 0} where
  -- k merged into a list in order of slots; f makes what follows k
  abbrev pub weave : (A → A → Ordering) → (A → A → Ordering) → A → (List A → List A) → List A
      → List A
  weave slot rank k f [] = k ∷ f []
  weave slot rank k f (l ∷ ls) =
      elim (slot k l) [
        | Less ↦ k ∷ f (l ∷ ls)
        | Equal ↦ (if is_gt (rank l k) then l else k) ∷ f ls
        | Greater ↦ l ∷ weave slot rank k f ls
      ]

  -- two lists in order of slots merged; of one slot the greater rank stays
  abbrev pub merged : (A → A → Ordering) → (A → A → Ordering) → List A → List A → List A
  merged slot rank [] ls = ls
  merged slot rank (k ∷ ks) ls = weave slot rank k (merged slot rank ks) ls

  -- the order of two first members; an empty list counts as greater
  abbrev pub heads_order : (A → A → Ordering) → List A → List A → Ordering
  heads_order slot ks [] = Less
  heads_order slot [] (l ∷ ls) = Greater
  heads_order slot (k ∷ ks) (l ∷ ls) = slot k l

  -- the member of greater rank, the first if they tie
  abbrev pub greater_of : (A → A → Ordering) → Option A → Option A → Option A
  greater_of rank None l = l
  greater_of rank (Some k) None = Some k
  greater_of rank (Some k) (Some l) = Some (if is_gt (rank l k) then l else k)
