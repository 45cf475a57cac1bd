-- The lines that a reader of a listing has left.
use Rattle.std.specs.Prelude.{◌≡◌, ℕ, ◌+◌, ◌==◌, Bool, false, codes, List, [], ◌∷◌, length, take}
use Rattle.std.specs.Prelude.{drop, Option, Some, None, Result, Ok, Err, nat_lt, refl}
use Rattle.std.specs.Prelude.{if◌then◌else◌}
use Rattle.std.specs.List.{position_or_len}
use Rattle.std.specs.Str.{bytes_eq}
use Rattle.std.specs.Str.Lines.{lines, strip_carriage_return}
use Rattle.bufr_listing_reader.specs.declared.lines.TextLine.{TextLine}
use Rattle.bufr_listing_reader.specs.declared.lines.Lines.{Lines}
use Rattle.bufr_listing.specs.declared.fault.ListingFault.{ListingFault}
use Rattle.bufr_listing.specs.declared.fault.ListingFault.TheVariants.{BadLine}
use Rattle.bufr_listing_reader.specs.Lines.{Line, as_printed, counting_from}

-- a line as writers print it
abbrev pub printed : TextLine → Line
printed l = record { number = l.number; text = as_printed l.text.now }

-- the line found and the lines after it; none without a line found
abbrev pub left_by : Option TextLine → ℕ → List ℕ → List Line
left_by None found rest = []
left_by (Some l) found rest = printed l ∷ counting_from (found + 1) (lines rest)

-- the lines left
unfoldable pub left : Lines → List Line
left c = left_by c.next c.found c.rest.now

-- the number after the last line's, from the line found
abbrev pub past_by : Option TextLine → ℕ → List ℕ → ℕ
past_by None found rest = found + 1
past_by (Some l) found rest = found + length (lines rest) + 1

-- the number after that of the text's last line
unfoldable pub past : Lines → ℕ
past c = past_by c.next c.found c.rest.now

-- the next line, if there is one
abbrev pub IsNextLine : List Line → Option TextLine → Type 0
IsNextLine ls None = ls ≡ []
IsNextLine ls (Some l) = (rest : List Line) × (ls ≡ printed l ∷ rest)

-- the lines after the first
abbrev pub behind : List Line → List Line
behind ls = drop 1 ls

-- the next line and those after it, or L1
abbrev pub next_of : ℕ → List Line → Result (Line × List Line) ListingFault
next_of past [] = Err (BadLine past)
next_of past (l ∷ ls) = Ok (l, ls)

-- ---- lines of a text

-- a line without one CR at its end
abbrev pub without_return : List ℕ → List ℕ
without_return l = strip_carriage_return l

-- the end of the first line: the index of its LF, or the text's length
abbrev pub line_end : List ℕ → ℕ
line_end text = position_or_len (λ b. b == 10) text

-- the first line of a text, and the text after it
abbrev pub first_line_of : List ℕ → Option (List ℕ × List ℕ)
first_line_of text =
    if length text == 0 then None
    else if nat_lt (line_end text) (length text)
    then Some (without_return (take (line_end text) text), drop (line_end text + 1) text)
    else Some (text, [])

-- whether the next line is `end`
abbrev pub is_end : List Line → Bool
is_end [] = false
is_end (l ∷ ls) = bytes_eq l.text (codes "end")

-- the line found comes next: for `Lines::peek`
pub next_is : (next : Option TextLine) (found : ℕ) (rest : List ℕ)
    → IsNextLine (left_by next found rest) next
next_is None found rest = refl
next_is (Some l) found rest = (counting_from (found + 1) (lines rest), refl)
