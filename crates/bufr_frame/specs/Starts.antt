-- What begins at a place of a stream, by the octets from there on (FM 94 BUFR, section 0: `BUFR`
-- and the total length; section 5: `7777`).
use Rattle.std.specs.Prelude.{ℕ, ◌+◌, ◌-◌, ◌*◌, Bool, true, false, nat_lt, nat_le, ◌==◌}
use Rattle.std.specs.Prelude.{if◌then◌else◌, Option, Some, None, List, [], ◌∷◌, codes, length, drop}
use Rattle.bufr_frame.specs.declared.places.TheConstants.{SHORTEST}
use Rattle.bufr_frame.specs.declared.places.Start.{Start}
use Rattle.bufr_frame.specs.declared.places.Start.TheVariants.{Frame, Open, Other}

-- `BUFR`, the start of a message: octets 1 to 4 of section 0
abbrev pub bufr : List ℕ
bufr = codes "BUFR"

-- `7777`, the end of a message: section 5
abbrev pub sevens : List ℕ
sevens = codes "7777"

-- whether two lists are the same as far as both go
abbrev pub agrees : List ℕ → List ℕ → Bool
agrees [] ys = true
agrees (x ∷ xs) [] = true
agrees (x ∷ xs) (y ∷ ys) = if x == y then agrees xs ys else false

-- the total length in octets 5 to 7 of section 0
abbrev pub announced : List ℕ → Option ℕ
announced (_ ∷ _ ∷ _ ∷ _ ∷ x ∷ y ∷ z ∷ _) = Some (65536 * x + 256 * y + z)
announced _ = None

-- What begins with `BUFR` and this length: nothing below 12, or with other octets than `7777` at
-- the end; a frame if all octets are there; else a frame may come.
abbrev pub start_by : Option ℕ → List ℕ → Start
start_by None octets = Open
start_by (Some l) octets =
    if nat_lt l SHORTEST then Other
    else (if agrees (drop (l - 4) octets) sevens
    then (if nat_le l (length octets) then Frame l else Open)
    else Other)

-- what begins at these octets
abbrev pub start_of : List ℕ → Start
start_of octets = if agrees octets bufr then start_by (announced octets) octets else Other
