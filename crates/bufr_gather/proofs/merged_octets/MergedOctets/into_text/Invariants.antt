use Rattle.std.proofs.Common.{◌≡◌, ◌++◌, ℕ, List, length}
use Rattle.std.specs.List.{flat_map}
use Rattle.bufr_gather.proofs.merged_octets.MergedOctets.into_text.Given as goal

-- the text and the octets left are all octets
abbrev pub invariant-loop-octets : goal.invariant-loop-octets
invariant-loop-octets l =
    flat_map (λ (o : List ℕ). o) l.fn.self
    ≡ l.text.items ++ flat_map (λ (o : List ℕ). o) l.self

-- the entries left
abbrev pub decreases-loop-octets : goal.decreases-loop-octets
decreases-loop-octets l = length l.self
