-- The lines before the first subset of a message without octets for local use.
use Rattle.std.specs.Prelude.{ℕ, Bool, List, [], ◌∷◌, ◌++◌, codes}
use Rattle.bufr_listing.specs.Listings.{descriptors_line, flags_line, line, numbers_line}

-- the lines by their numbers, flags and descriptors
abbrev pub bare_heading_lines : List ℕ → List ℕ → Bool → Bool → List ℕ → List (List ℕ)
bare_heading_lines section1 time observed compressed descriptors =
    codes "message" ∷ numbers_line (codes "section1") section1
    ∷ numbers_line (codes "time") time ∷ flags_line observed compressed
    ∷ descriptors_line descriptors ∷ []

-- the text of the lines before the time
abbrev pub lines_before_time : List ℕ → List ℕ
lines_before_time section1 =
    line (codes "message") ++ line (numbers_line (codes "section1") section1)

-- the text of the lines after the time
abbrev pub lines_after_time : Bool → Bool → List ℕ → List ℕ
lines_after_time observed compressed descriptors =
    line (flags_line observed compressed) ++ line (descriptors_line descriptors)
