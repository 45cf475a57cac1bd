use Rattle.std.proofs.Common.{◌≡◌, ◌++◌}
use Rattle.std.specs.List.{flat_map}
use Rattle.bufr_entries.specs.declared.key.Key.{Key}
use Rattle.bufr_shelves.specs.declared.rank.Rank.{Rank}
use Rattle.bufr_shelves.proofs.sorted_shelf.joined.push_keyed.Given as goal

-- `out` has the octets of the pairs before this one
abbrev pub invariant-loop-pair : goal.invariant-loop-pair
invariant-loop-pair l =
    l.out.items ≡ l.fn.out.items ++ flat_map (λ (p : Key × Rank). p.1.bytes) l.yielded
