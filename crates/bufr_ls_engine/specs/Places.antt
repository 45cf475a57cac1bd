-- The fields of where a frame is (private contracts).
use Rattle.std.specs.Prelude.{ℕ, decimal, length, List, [], ◌∷◌}
use Rattle.bufr_ls_engine.specs.declared.whole_row.Counts.{Counts}

-- the fields before the edition
abbrev pub place_of : Counts → List (List ℕ)
place_of frame =
    decimal frame.input ∷ decimal frame.message ∷ decimal frame.place
    ∷ decimal (length frame.octets.now) ∷ []
