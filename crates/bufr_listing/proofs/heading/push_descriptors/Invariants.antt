use Rattle.std.proofs.Common.{◌≡◌, ◌++◌, ◌∷◌, take}
use Rattle.std.specs.List.{flat_map}
use Rattle.bufr_tables.specs.Descriptors.{six_digits}
use Rattle.bufr_listing.proofs.heading.push_descriptors.Given as goal

-- the descriptors so far follow the old text, each after a space
abbrev pub invariant-loop-fxy : goal.invariant-loop-fxy
invariant-loop-fxy l =
    l.text.items ≡ l.initial.text.items
    ++ flat_map (λ d. 32 ∷ six_digits d) (take l.fxy-index l.descriptors)
