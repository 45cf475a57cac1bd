use Rattle.std.proofs.Common.{◌≡◌, ◌++◌, take}
use Rattle.std.specs.List.{flat_map}
use Rattle.bufr_listing.specs.Listings.{line, field_line}
use Rattle.bufr_listing.proofs.fields.push_subset.Given as goal

-- the lines of the fields so far follow the old text
abbrev pub invariant-loop-field : goal.invariant-loop-field
invariant-loop-field l =
    l.text.items ≡ l.initial.text.items
    ++ flat_map (λ f. line (field_line f)) (take l.field-index l.field-items)
