use Rattle.std.proofs.Common.{◌≡◌, ◌≤◌, ◌*◌, ◌++◌, ◌∷◌, [], decimal, drop, length}
use Rattle.std.specs.List.{flat_map}
use Rattle.bufr_listing.proofs.heading.push_numbers.Given as goal

-- the row ends with the numbers so far, each after a space, and has room for the others
abbrev pub invariant-loop-left : goal.invariant-loop-left
invariant-loop-left l =
    (drop l.first l.row ≡ flat_map (λ n. 32 ∷ decimal n) (drop l.left l.fn.numbers) ++ 10 ∷ [])
    × (6 * l.left ≤ l.first) × (l.first ≤ 48) × (l.left ≤ length l.fn.numbers)

abbrev pub decreases-loop-left : goal.decreases-loop-left
decreases-loop-left l = l.left
