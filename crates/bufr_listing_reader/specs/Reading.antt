-- Reading a listing line by line: the messages that it lists, or the first fault and its line.
use Rattle.std.specs.Prelude.{ℕ, zero, suc, ◌+◌, ◌==◌, ◌&&◌, not, Bool, true, false, List, [], ◌∷◌}
use Rattle.std.specs.Prelude.{length, map, get_or, drop, codes, unwrap_or, Option, Some, None}
use Rattle.std.specs.Prelude.{Result, Ok, Err, nat_le, nat_lt, if◌then◌else◌}
use Rattle.std.specs.Str.{bytes_eq}
use Rattle.std.specs.Str.Lines.{lines}
use Rattle.std.specs.Str.Parse.{digits_value}
use Rattle.hex.specs.declared.error.FromHexError.{FromHexError}
use Rattle.hex.specs.Hex.{decode_of}
use Rattle.bufr_base.specs.Answers.{◌>>=◌, result_map}
use Rattle.bufr_tables.specs.Descriptors.{of_text}
use Rattle.bufr_tables.specs.Entries.{Entries}
use Rattle.bufr_expand.specs.declared.node.TemplateFault.{TemplateFault}
use Rattle.bufr_expand.specs.Templates.{template}
use Rattle.bufr_expand.specs.Trees.{Tree}
use Rattle.bufr_expand.specs.Courses.{Course, ends, stops, asks, course}
use Rattle.bufr_fields.specs.declared.field.Field.{Field}
use Rattle.bufr_fields.specs.declared.field.Subset.{Subset}
use Rattle.bufr_fields.specs.Forms.{number_of}
use Rattle.bufr_sections.specs.declared.message.Head.{Head}
use Rattle.bufr_sections.specs.declared.message.Message.{Message}
use Rattle.bufr_listing.specs.declared.fault.Cause.TheVariants as causes
use Rattle.bufr_listing.specs.declared.fault.ListingFault.{ListingFault}
use Rattle.bufr_listing.specs.declared.fault.ListingFault.TheVariants.{BadLine, BadValue, Refused}
use Rattle.bufr_listing_reader.specs.Limits.{one_octet, two_octets}
use Rattle.bufr_listing.specs.Listings.{numbers_line, octets_line, flags_line, descriptors_line}
use Rattle.bufr_listing_reader.specs.Lines.{Line, words_of, first_word, counting_lines}
use Rattle.bufr_listing_reader.specs.FieldLines.{read_field}

-- ---- one line

-- a result, and the lines after it
abbrev pub with_rest : {A : Type 0} → List Line → A → Result (A × List Line) ListingFault
with_rest ls a = Ok (a, ls)

-- the next line as `read` takes it; without a line L1 with `past`, the number after the last line's
abbrev pub read_line : {A : Type 0} → (ℕ → List ℕ → Result A ListingFault) → ℕ → List Line
    → Result (A × List Line) ListingFault
read_line read past [] = Err (BadLine past)
read_line read past (l ∷ ls) = read l.number l.text >>= with_rest ls

-- L2 if the line has this first word and the right number of words, else L1
abbrev pub fault_behind : List ℕ → Bool → ℕ → List ℕ → ListingFault
fault_behind title has_count n text =
    if bytes_eq (first_word text) title && has_count then BadValue n else BadLine n

-- a line of one word
abbrev pub read_word : List ℕ → ℕ → List ℕ → Result (Unit {0}) ListingFault
read_word word n text = if bytes_eq text word then Ok tt else Err (BadLine n)

-- one number below each limit
unfoldable pub are_below : List ℕ → List ℕ → Bool
are_below [] [] = true
are_below (limit ∷ limits) (n ∷ ns) = nat_lt n limit && are_below limits ns
are_below _ _ = false

-- the numbers that a line could have
abbrev pub numbers_in : List ℕ → List ℕ
numbers_in text = map (digits_value 10) (drop 1 (words_of text))

-- a line of numbers below these limits
abbrev pub read_numbers : List ℕ → List ℕ → ℕ → List ℕ → Result (List ℕ) ListingFault
read_numbers title limits n text =
    if are_below limits (numbers_in text) && bytes_eq (numbers_line title (numbers_in text)) text
    then Ok (numbers_in text)
    else Err (fault_behind title (length (words_of text) == length limits + 1) n text)

-- the octets of a decoding, none after a fault
abbrev pub octets_by : Result (List ℕ) FromHexError → List ℕ
octets_by (Ok octets) = octets
octets_by (Err fault) = []

-- the octets of hexadecimal digits, none for other characters
abbrev pub octets_in : List ℕ → List ℕ
octets_in digits = octets_by (decode_of digits)

-- a line of octets, at least one
abbrev pub read_octets : List ℕ → Bool → ℕ → List ℕ → Result (List ℕ) ListingFault
read_octets title has_count n text =
    let octets = octets_in (drop (length title + 1) text) in
    if not (length octets == 0) && bytes_eq (octets_line title octets) text
    then Ok octets
    else Err (fault_behind title has_count n text)

-- the octets for local use of section 1
abbrev pub read_local : ℕ → List ℕ → Result (List ℕ) ListingFault
read_local n text = read_octets (codes "local1") (length (words_of text) == 2) n text

-- the line of a section 2, perhaps without octets
abbrev pub read_section2 : ℕ → List ℕ → Result (List ℕ) ListingFault
read_section2 n text =
    if bytes_eq text (codes "section2")
    then Ok []
    else read_octets (codes "section2") (length (words_of text) == 2) n text

-- the flags of a message
pub record Flags : Type 0 where
  pub observed : Bool
  pub compressed : Bool

-- the flags of a line, one of the four that writers print
abbrev pub read_flags : ℕ → List ℕ → Result Flags ListingFault
read_flags n text =
    if bytes_eq text (flags_line false false)
    then Ok (record { observed = false; compressed = false })
    else if bytes_eq text (flags_line true false)
    then Ok (record { observed = true; compressed = false })
    else if bytes_eq text (flags_line false true)
    then Ok (record { observed = false; compressed = true })
    else if bytes_eq text (flags_line true true)
    then Ok (record { observed = true; compressed = true })
    else Err (fault_behind (codes "flags") (nat_le (length (words_of text)) 3) n text)

-- the descriptors that a line could have
abbrev pub descriptors_in : List ℕ → List ℕ
descriptors_in text = map (λ w. unwrap_or (of_text w) 0) (drop 1 (words_of text))

-- descriptors and their template's tree
pub record Described : Type 0 where
  pub descriptors : List ℕ
  pub tree : Tree

-- descriptors with their tree, or L3
abbrev pub described : ℕ → List ℕ → Result Tree TemplateFault → Result Described ListingFault
described n ds (Ok tree) = Ok (record { descriptors = ds; tree = tree })
described n ds (Err fault) = Err (Refused n (causes.Template fault))

-- a line of descriptors, at least one, that have a template; L3 without one
abbrev pub read_descriptors : Entries → ℕ → List ℕ → Result Described ListingFault
read_descriptors tables n text =
    if not (length (descriptors_in text) == 0)
    && bytes_eq (descriptors_line (descriptors_in text)) text
    then described n (descriptors_in text) (template tables (descriptors_in text))
    else Err (BadLine n)

-- ---- lines that a message may lack

-- the next line if it has this first word, else nothing
abbrev pub read_if : {A : Type 0} → List ℕ → (ℕ → List ℕ → Result A ListingFault) → List Line
    → Result (Option A × List Line) ListingFault
read_if title read [] = with_rest [] None
read_if title read (l ∷ ls) =
    if bytes_eq (first_word l.text) title
    then (read l.number l.text >>= λ a. with_rest ls (Some a))
    else with_rest (l ∷ ls) None

-- ---- subsets

-- the fields of a subset, the items of the message by then, and the lines after them
pub record FieldsListed : Type 0 where
  pub fields : List Field
  pub items : ℕ
  pub rest : List Line

-- subsets, the items of the message by then, and the lines after them
pub record SubsetsListed : Type 0 where
  pub subsets : List Subset
  pub items : ℕ
  pub rest : List Line

-- the fields that a course asks for, a line each; L3 at the next line if no further field can
-- follow
unfoldable pub fields_read : ℕ → Course → List Line → Result FieldsListed ListingFault
fields_read past (ends n) ls = Ok (record { fields = []; items = n; rest = ls })
fields_read past (stops met fault) [] = Err (BadLine past)
fields_read past (stops met fault) (l ∷ ls) = Err (Refused l.number (causes.Walk fault))
fields_read past (asks met d spec more) ls = do
  first ← read_line (read_field d spec) past ls
  others ← fields_read past (more (number_of first.0.raw)) first.1
  Ok (record others { fields = first.0 ∷ others.fields })

-- subsets up to the line `end`; at most `left` lines are left
unfoldable pub subsets_read : ℕ → ℕ → (ℕ → Course) → ℕ → List Line
    → Result SubsetsListed ListingFault
subsets_read left past course used [] = Err (BadLine past)
subsets_read zero past course used (l ∷ ls) = Err (BadLine past)
subsets_read (suc left) past course used (l ∷ ls) =
    elim (bytes_eq l.text (codes "end")) [
      | true ↦ Ok (record { subsets = []; items = used; rest = ls })
      | false ↦ read_word (codes "subset") l.number l.text
          >>= λ _. fields_read past (course used) ls
          >>= λ first. subsets_read left past course first.items first.rest
          >>= λ others. Ok (record others {
            subsets = record { fields = first.fields } ∷ others.subsets;
          })
    ]

-- the subsets up to the line `end`, and the lines after it
abbrev pub subsets_of : ℕ → (ℕ → Course) → List Line → Result (List Subset × List Line) ListingFault
subsets_of past course ls =
    result_map (λ r. (r.subsets, r.rest)) (subsets_read (length ls) past course 0 ls)

-- ---- messages

-- the limits of the numbers in the line `section1`
abbrev pub section1_limits : List ℕ
section1_limits =
    two_octets ∷ two_octets ∷ one_octet ∷ one_octet ∷ one_octet ∷ one_octet ∷ one_octet ∷ one_octet
    ∷ []

-- the limits of the numbers in the line `time`
abbrev pub time_limits : List ℕ
time_limits = two_octets ∷ one_octet ∷ one_octet ∷ one_octet ∷ one_octet ∷ one_octet ∷ []

-- section 1 from its numbers, its time and its octets for local use
abbrev pub head_with : List ℕ → List ℕ → Option (List ℕ) → Head
head_with ns ts local =
    record {
      centre = get_or ns 0 0;
      sub_centre = get_or ns 1 0;
      update = get_or ns 2 0;
      category = get_or ns 3 0;
      international = get_or ns 4 0;
      local_category = get_or ns 5 0;
      master_version = get_or ns 6 0;
      local_version = get_or ns 7 0;
      year = get_or ts 0 0;
      month = get_or ts 1 0;
      day = get_or ts 2 0;
      hour = get_or ts 3 0;
      minute = get_or ts 4 0;
      second = get_or ts 5 0;
      local = unwrap_or local [];
    }

-- section 1, and the lines after its own
abbrev pub head_read : ℕ → List Line → Result (Head × List Line) ListingFault
head_read past ls = do
  begin ← read_line (read_word (codes "message")) past ls
  numbers ← read_line (read_numbers (codes "section1") section1_limits) past begin.1
  time ← read_line (read_numbers (codes "time") time_limits) past numbers.1
  local ← read_if (codes "local1") read_local time.1
  with_rest local.1 (head_with numbers.0 time.0 local.0)

-- a message and the lines after it
abbrev pub MessageRead : Type 0
MessageRead = Message × List Line

-- the lines of one message
unfoldable pub message_read : Entries → ℕ → List Line → Result MessageRead ListingFault
message_read tables past ls = do
  begin ← read_line (read_word (codes "message")) past ls
  numbers ← read_line (read_numbers (codes "section1") section1_limits) past begin.1
  time ← read_line (read_numbers (codes "time") time_limits) past numbers.1
  local ← read_if (codes "local1") read_local time.1
  two ← read_if (codes "section2") read_section2 local.1
  flags ← read_line read_flags past two.1
  list ← read_line (read_descriptors tables) past flags.1
  found ← subsets_read (length list.1) past (course list.0.tree) 0 list.1
  with_rest found.rest (record {
    head = head_with numbers.0 time.0 local.0;
    section2 = two.0;
    observed = flags.0.observed;
    compressed = flags.0.compressed;
    descriptors = list.0.descriptors;
    subsets = found.subsets;
  })

-- the messages of all lines; at most `left` are left
unfoldable pub messages_read : ℕ → Entries → ℕ → List Line → Result (List Message) ListingFault
messages_read left tables past [] = Ok []
messages_read zero tables past (l ∷ ls) = Err (BadLine past)
messages_read (suc left) tables past (l ∷ ls) =
    message_read tables past (l ∷ ls) >>= λ first. messages_read left tables past first.1
    >>= λ others. Ok (first.0 ∷ others)

-- the messages that a text lists, or the first fault
abbrev pub messages_listed : Entries → List ℕ → Result (List Message) ListingFault
messages_listed tables text =
    messages_read (length (counting_lines text)) tables (length (lines text) + 1)
    (counting_lines text)
