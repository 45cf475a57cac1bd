-- The text of a line of octets that a listing may lack.
use Rattle.std.specs.Prelude.{ℕ, List, [], ◌∷◌, Option, Some, None}
use Rattle.bufr_listing.specs.Listings.{line, octets_line}

-- nothing for `None`, `empty` for an empty list, else the line of the octets with its end
abbrev pub octets_text : List ℕ → List ℕ → Option (List ℕ) → List ℕ
octets_text title empty None = []
octets_text title empty (Some []) = empty
octets_text title empty (Some (x ∷ xs)) = line (octets_line title (x ∷ xs))
