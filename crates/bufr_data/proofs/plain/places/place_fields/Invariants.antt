use Rattle.std.proofs.Common.{length}
use Rattle.bufr_data.proofs.PlainFacts.Placed.{PlacedSoFar}
use Rattle.bufr_data.proofs.plain.places.place_fields.Given as goal

-- the places found are those of the fields before `left`, and `gap` counts the bits since the last
abbrev pub invariant-loop-field : goal.invariant-loop-field
invariant-loop-field l = PlacedSoFar l.asked l.fn.fields l.places.items l.gap l.left

-- each turn leaves one field fewer
abbrev pub decreases-loop-field : goal.decreases-loop-field
decreases-loop-field l = length l.left
