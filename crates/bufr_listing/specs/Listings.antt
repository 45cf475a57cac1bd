-- The listing of a message, this project's own text form of FM 94 BUFR: lines of words. A line has
-- no end by itself; a text has each with its end.
use Rattle.std.specs.Prelude.{ℕ, ◌==◌, ◌&&◌, not, Bool, true, false, List, [], ◌∷◌, ◌++◌, map}
use Rattle.std.specs.Prelude.{codes, decimal, Option, Some, None, nat_le, if◌then◌else◌}
use Rattle.std.specs.List.{flat_map}
use Rattle.hex.specs.Hex.{encode_lower}
use Rattle.bufr_tables.specs.Descriptors.{six_digits}
use Rattle.bufr_fields.specs.declared.field.Raw.{Raw}
use Rattle.bufr_fields.specs.declared.field.Raw.TheVariants.{Number, Text}
use Rattle.bufr_fields.specs.declared.field.Decimal.{Decimal}
use Rattle.bufr_fields.specs.declared.field.Field.{Field}
use Rattle.bufr_fields.specs.declared.field.Subset.{Subset}
use Rattle.bufr_fields.specs.Values.{is_missing, value, text_of}
use Rattle.bufr_sections.specs.declared.message.Head.{Head}
use Rattle.bufr_sections.specs.declared.message.Message.{Message}

-- ---- words and lines

-- words with a space between them
abbrev pub words : List ℕ → List (List ℕ) → List ℕ
words first others = first ++ flat_map (λ w. 32 ∷ w) others

-- a line with its end
abbrev pub line : List ℕ → List ℕ
line text = text ++ 10 ∷ []

-- the text of lines, each with its end
abbrev pub joined : List (List ℕ) → List ℕ
joined ls = flat_map line ls

-- ---- values

-- whether an octet appears as itself between quotes: 0x20 to 0x7E, but not the quote and the
-- backslash
abbrev pub is_literal : ℕ → Bool
is_literal c = nat_le 32 c && nat_le c 126 && not (c == 34) && not (c == 92)

-- an octet between quotes: itself, or a backslash and two lower hexadecimal digits
abbrev pub quoted_octet : ℕ → List ℕ
quoted_octet c = if is_literal c then c ∷ [] else 92 ∷ encode_lower (c ∷ [])

-- characters between quotes
abbrev pub quoted : List ℕ → List ℕ
quoted text = 34 ∷ flat_map quoted_octet text ++ 34 ∷ []

-- the digits of a value, if there is one
abbrev pub number_word : Option Decimal → List ℕ
number_word None = []
number_word (Some d) = text_of d

-- the word for a raw value that is not missing
abbrev pub raw_word : Field → Raw → List ℕ
raw_word f (Number n) = number_word (value f)
raw_word f (Text text) = quoted text

-- the word for the value of a field
abbrev pub value_word : Field → List ℕ
value_word f = if is_missing f then codes "missing" else raw_word f f.raw

-- ---- the lines before the first subset

-- the numbers of section 1 without its time
abbrev pub section1_numbers : Head → List ℕ
section1_numbers h =
    h.centre ∷ h.sub_centre ∷ h.update ∷ h.category ∷ h.international ∷ h.local_category
    ∷ h.master_version ∷ h.local_version ∷ []

-- the numbers of the time, from the year to the second
abbrev pub time_numbers : Head → List ℕ
time_numbers h = h.year ∷ h.month ∷ h.day ∷ h.hour ∷ h.minute ∷ h.second ∷ []

-- a line of numbers after its first word
abbrev pub numbers_line : List ℕ → List ℕ → List ℕ
numbers_line title numbers = words title (map decimal numbers)

-- a line of octets after its first word, in lower hexadecimal digits
abbrev pub octets_line : List ℕ → List ℕ → List ℕ
octets_line title octets = words title (encode_lower octets ∷ [])

-- the line of section 1 without its time
abbrev pub section1_line : Head → List ℕ
section1_line h = numbers_line (codes "section1") (section1_numbers h)

-- the line of the time
abbrev pub time_line : Head → List ℕ
time_line h = numbers_line (codes "time") (time_numbers h)

-- the line of octets for local use, if there are any
abbrev pub local_lines : List ℕ → List (List ℕ)
local_lines [] = []
local_lines (x ∷ xs) = octets_line (codes "local1") (x ∷ xs) ∷ []

-- the line of a section 2 with these octets
abbrev pub section2_line : List ℕ → List ℕ
section2_line [] = codes "section2"
section2_line (x ∷ xs) = octets_line (codes "section2") (x ∷ xs)

-- the line of section 2, if there is one
abbrev pub section2_lines : Option (List ℕ) → List (List ℕ)
section2_lines None = []
section2_lines (Some octets) = section2_line octets ∷ []

-- a word if a flag is up
abbrev pub word_if : Bool → List ℕ → List (List ℕ)
word_if true word = word ∷ []
word_if false word = []

-- the line of the flags that are up, `observed` first
abbrev pub flags_line : Bool → Bool → List ℕ
flags_line observed compressed =
    words (codes "flags")
    (word_if observed (codes "observed") ++ word_if compressed (codes "compressed"))

-- the line of descriptors, six digits each
abbrev pub descriptors_line : List ℕ → List ℕ
descriptors_line descriptors = words (codes "descriptors") (map six_digits descriptors)

-- the lines before the first subset, in this order
unfoldable pub heading_lines : Message → List (List ℕ)
heading_lines m =
    codes "message" ∷ section1_line m.head ∷ time_line m.head
    ∷ local_lines m.head.local ++ section2_lines m.section2
    ++ flags_line m.observed m.compressed ∷ descriptors_line m.descriptors ∷ []

-- ---- the lines of subsets

-- the line of a field: its descriptor, a space and its value
abbrev pub field_line : Field → List ℕ
field_line f = six_digits f.fxy ++ 32 ∷ value_word f

-- the first line of a subset
abbrev pub subset_line : List ℕ
subset_line = codes "subset"

-- the lines of a subset: its first one and one for each field
abbrev pub subset_lines : Subset → List (List ℕ)
subset_lines s = subset_line ∷ map field_line s.fields

-- the last line of a listing
abbrev pub end_line : List ℕ
end_line = codes "end"

-- ---- listings

-- the lines of a message, in this order
unfoldable pub lines_of : Message → List (List ℕ)
lines_of m = heading_lines m ++ flat_map subset_lines m.subsets ++ end_line ∷ []

-- the listing of a message: its lines, each with its end
unfoldable pub listing : Message → List ℕ
listing m = joined (lines_of m)
