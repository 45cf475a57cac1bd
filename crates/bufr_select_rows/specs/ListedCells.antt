-- What cells show of the lines of a listing, so that rows and listings cannot differ.
use Rattle.std.specs.Prelude.{◌≡◌, ℕ, ◌-◌, ◌==◌, ◌||◌, Bool, List, [], ◌∷◌, codes, decimal, drop}
use Rattle.std.specs.Prelude.{filter, get_or, Option, if◌then◌else◌, length, map, take}
use Rattle.std.specs.List.{AllByRecursion, flat_map, list_all}
use Rattle.std.specs.Str.{bytes_eq}
use Rattle.bufr_tables.specs.Descriptors.{IsDescriptor, six_digits}
use Rattle.bufr_fields.specs.declared.field.Field.{Field}
use Rattle.bufr_listing.specs.Listings.{field_line, section1_line, time_line, words}
use Rattle.bufr_select_rows.specs.Rows.{Origin, fields_with, rows, told_number}
use Rattle.bufr_select_rows.specs.Values.{shown_value}
use Rattle.bufr_select_rows.specs.declared.column.Column.{Column}
use Rattle.bufr_select_rows.specs.declared.fact.Fact.{Fact}
use Rattle.bufr_select_rows.specs.declared.fact.Fact.TheVariants.{Centre, SubCentre, Update}
use Rattle.bufr_select_rows.specs.declared.fact.Fact.TheVariants.{Category, International}
use Rattle.bufr_select_rows.specs.declared.fact.Fact.TheVariants.{LocalCategory, MasterVersion}
use Rattle.bufr_select_rows.specs.declared.fact.Fact.TheVariants.{LocalVersion, Year, Month, Day}
use Rattle.bufr_select_rows.specs.declared.fact.Fact.TheVariants.{Hour, Minute, Second}

-- ---- the word of a text

-- the characters between quotes
abbrev pub between_quotes : List ℕ → List ℕ
between_quotes word = take (length word - 2) (drop 1 word)

-- the spellings of the octets of a text: each is one character, or a backslash and two digits
abbrev pub spellings : List ℕ → List (List ℕ)
spellings [] = []
spellings (a ∷ []) = (a ∷ []) ∷ []
spellings (a ∷ b ∷ []) = (a ∷ []) ∷ (b ∷ []) ∷ []
spellings (a ∷ b ∷ c ∷ text) = if a == 92 then (a ∷ b ∷ c ∷ []) ∷ spellings text
    else (a ∷ []) ∷ spellings (b ∷ c ∷ text)

-- whether an octet is spelt that pads a text: a space, or NUL as `\00`
abbrev pub spells_padding : List ℕ → Bool
spells_padding spelling = bytes_eq spelling (codes " ") || bytes_eq spelling (92 ∷ codes "00")

-- spellings without those of the padding at their end
abbrev pub without_padding : List (List ℕ) → List (List ℕ)
without_padding [] = []
without_padding (s ∷ spellings) = if list_all spells_padding (s ∷ spellings) then []
    else s ∷ without_padding spellings

-- a spelling, but a quote as itself in place of `\22`
abbrev pub with_bare_quote : List ℕ → List ℕ
with_bare_quote spelling = if bytes_eq spelling (92 ∷ codes "22") then 34 ∷ [] else spelling

-- ---- the word of a value

-- what a cell shows of a word: nothing of `missing`; of a text the characters between its quotes
-- without the padding at their end, and with its own quotes as themselves; of a number all
abbrev pub cell_of_word : List ℕ → List ℕ
cell_of_word word =
    if bytes_eq word (codes "missing") then []
    else if get_or word 0 0 == 34
    then flat_map with_bare_quote (without_padding (spellings (between_quotes word)))
    else word

-- the six digits at the begin of a line
abbrev pub digits_in : List ℕ → List ℕ
digits_in text = take 6 text

-- the word after these and a space
abbrev pub word_in : List ℕ → List ℕ
word_in text = drop 7 text

-- ---- laws

-- the value of a field is what a cell shows of the word in the field's line
abbrev pub ValuesAreListed : Type 0
ValuesAreListed = (f : Field) → shown_value f ≡ cell_of_word (word_in (field_line f))

-- the lines of the fields with a descriptor are those that begin with its digits
abbrev pub LinesHaveDescriptors : Type 0
LinesHaveDescriptors = (d : ℕ) (fields : List Field) → IsDescriptor d
    → AllByRecursion (λ f. IsDescriptor f.fxy) fields
    → map field_line (fields_with d fields)
    ≡ filter (λ text. bytes_eq (digits_in text) (six_digits d)) (map field_line fields)

-- subsets with the same lines have the same rows
abbrev pub LinesDetermineRows : Type 0
LinesDetermineRows = (columns : List Column) (each : Option ℕ) (o : Origin) (fields others : List Field)
    → AllByRecursion (λ f. IsDescriptor f.fxy) fields
    → AllByRecursion (λ f. IsDescriptor f.fxy) others
    → map field_line fields ≡ map field_line others
    → rows columns each o fields ≡ rows columns each o others

-- the numbers of facts
abbrev pub numbers_of : Origin → List Fact → List (List ℕ)
numbers_of o facts = map (λ fact. decimal (told_number fact o)) facts

-- the numbers of the facts in section 1 are those in its two lines
pub record FactsAreListed (o : Origin) : Type 0 where
  pub section1 : section1_line o.head
      ≡ words (codes "section1") (numbers_of o (Centre ∷ SubCentre ∷ Update ∷ Category
      ∷ International ∷ LocalCategory ∷ MasterVersion ∷ LocalVersion ∷ []))
  pub time : time_line o.head
      ≡ words (codes "time") (numbers_of o (Year ∷ Month ∷ Day ∷ Hour ∷ Minute ∷ Second ∷ []))
