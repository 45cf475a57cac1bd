use Rattle.std.proofs.Common.{◌≡◌, ◌++◌, ℕ, List}
use Rattle.std.specs.List.{flat_map}
use Rattle.bufr_shelves.proofs.sorted_shelf.joined.push_unkeyed.Given as goal

-- `out` has the octets of the pairs before this one
abbrev pub invariant-loop-pair : goal.invariant-loop-pair
invariant-loop-pair l =
    l.out.items ≡ l.fn.out.items ++ flat_map (λ (p : List ℕ × ℕ). p.0) l.yielded
