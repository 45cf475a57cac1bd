use Rattle.std.proofs.Common.{◌≡◌, ◌++◌, take}
use Rattle.std.specs.List.{flat_map}
use Rattle.bufr_listing.specs.Listings.{quoted_octet}
use Rattle.bufr_listing.proofs.fields.push_quoted.Given as goal

-- the first quote and the octets so far follow the old text
abbrev pub invariant-loop-octet : goal.invariant-loop-octet
invariant-loop-octet l =
    l.text.items ≡ l.initial.text.items
    ++ flat_map quoted_octet (take l.octet-index l.octets)
