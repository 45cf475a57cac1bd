use Rattle.std.proofs.Common.{◌≡◌, ◌++◌, take}
use Rattle.std.specs.List.{flat_map}
use Rattle.bufr_listing.specs.Listings.{joined, subset_lines}
use Rattle.bufr_listing.proofs.text.text_of.Given as goal

-- the text has the lines before the first subset and those of the subsets so far
abbrev pub invariant-loop-subset : goal.invariant-loop-subset
invariant-loop-subset l =
    l.text.items ≡ l.initial.text.items
    ++ flat_map (λ s. joined (subset_lines s)) (take l.subset-index l.subset-items)
