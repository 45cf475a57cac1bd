-- The lines of a text in this project's own text form of FM 94 BUFR: which of them count, and which
-- messages they list.
use Rattle.std.specs.Prelude.{◌≡◌, ℕ, ◌+◌, ◌<◌, ◌^◌, ◌==◌, ◌&&◌, ◌||◌, Bool, true, List, [], ◌∷◌}
use Rattle.std.specs.Prelude.{length, map, codes, nat_le, get_or, if◌then◌else◌, IfSome, All}
use Rattle.std.specs.List.{flat_map, slice_split, AllByRecursion}
use Rattle.std.specs.Str.{bytes_eq}
use Rattle.std.specs.Str.Lines.{lines}
use Rattle.bufr_tables.specs.Entries.{Entries}
use Rattle.bufr_expand.specs.Flat.{IsTreeOf}
use Rattle.bufr_expand.specs.Trees.{Tree}
use Rattle.bufr_fields.specs.Fits.{AllFitWithin}
use Rattle.bufr_sections.specs.declared.message.Message.{Message}
use Rattle.bufr_sections.specs.Sections.{AreOctets, HeadFits}
use Rattle.bufr_listing.specs.Listings.{lines_of}

-- ---- the lines that count

-- whether reading skips a line: an empty one, or one that begins with `#`
abbrev pub is_skipped : List ℕ → Bool
is_skipped [] = true
is_skipped (c ∷ rest) = c == 35

-- the words of a line, with one space between two
abbrev pub words_of : List ℕ → List (List ℕ)
words_of text = slice_split (λ c. c == 32) text

-- the first word of a line
abbrev pub first_word : List ℕ → List ℕ
first_word text = get_or (words_of text) 0 []

-- a hexadecimal digit in lower case: A to F become a to f
abbrev pub lower_digit : ℕ → ℕ
lower_digit c = if nat_le 65 c && nat_le c 70 then c + 32 else c

-- whether a line has octets, by its first word
abbrev pub has_octets : List ℕ → Bool
has_octets text =
    bytes_eq (first_word text) (codes "local1") || bytes_eq (first_word text) (codes "section2")

-- a line as writers print it: hexadecimal digits in lower case
abbrev pub as_printed : List ℕ → List ℕ
as_printed text = if has_octets text then map lower_digit text else text

-- a line that counts, as writers print it, with its number in the text
pub record Line : Type 0 where
  pub number : ℕ
  pub text : List ℕ

-- the lines that count, if the first of all has number `n`
unfoldable pub counting_from : ℕ → List (List ℕ) → List Line
counting_from n [] = []
counting_from n (l ∷ ls) =
    if is_skipped l
    then counting_from (n + 1) ls
    else record { number = n; text = as_printed l } ∷ counting_from (n + 1) ls

-- the lines of a text that count, without LF and one CR before it
abbrev pub counting_lines : List ℕ → List Line
counting_lines text = counting_from 1 (lines text)

-- the texts of lines, without their numbers
abbrev pub texts : List Line → List (List ℕ)
texts ls = map (λ l. l.text) ls

-- ---- the messages that a text lists

-- a message that a text can list: its numbers are in range, it has a descriptor, its descriptors
-- have a tree, and its subsets fit the tree within 16,777,216 items
pub record CanBeListed (tables : Entries) (m : Message) : Type 0 where
  pub head : HeadFits m.head
  pub section2 : IfSome m.section2 AreOctets
  pub descriptors : All (λ d. d < 2 ^ 16) m.descriptors
  pub some_descriptor : 0 < length m.descriptors
  pub tree : Tree
  pub has_tree : IsTreeOf tables m.descriptors tree
  pub items : ℕ
  pub fit : AllFitWithin tree 0 m.subsets items

-- a text lists messages: its lines that count are theirs, with hexadecimal digits in either case
pub record Listed (tables : Entries) (text : List ℕ) (messages : List Message) : Type 0 where
  pub spelled : texts (counting_lines text) ≡ flat_map lines_of messages
  pub each : AllByRecursion (λ m. CanBeListed tables m) messages
