use Rattle.bufr_data.proofs.CompressedFacts.Rows.{PlacesSoFar}
use Rattle.bufr_data.proofs.compressed.places.check_places.Given as goal

-- the places from this one on decide whether all can be columns, and their fault is that of all
abbrev pub invariant-loop-place : goal.invariant-loop-place
invariant-loop-place l = PlacesSoFar l.fields l.others l.place
