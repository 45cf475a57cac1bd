-- Reading the line of a field by one candidate: the only raw value that could print its word. The
-- line is good if the candidate prints it, so there is no second grammar of numbers, quotes and
-- `missing`.
use Rattle.std.specs.Prelude.{ℕ, zero, suc, ◌+◌, ◌-◌, ◌*◌, ◌/◌, ◌^◌, ◌==◌, ◌&&◌, Bool, List, []}
use Rattle.std.specs.Prelude.{◌∷◌, ◌++◌, take, drop, get_or, replicate, codes, unwrap_or, Result}
use Rattle.std.specs.Prelude.{Ok, Err, ℤ, pos, negsuc, ◌-ℤ◌, if◌then◌else◌}
use Rattle.std.specs.Str.{bytes_eq}
use Rattle.hex.specs.Hex.{hex_digit_value}
use Rattle.bufr_tables.specs.declared.element.Kind.{Kind}
use Rattle.bufr_tables.specs.declared.element.Kind.TheVariants as kinds
use Rattle.bufr_tables.specs.Descriptors.{six_digits}
use Rattle.bufr_expand.specs.declared.operators.Spec.{Spec}
use Rattle.bufr_expand.specs.OperatorsInForce.{is_within}
use Rattle.bufr_fields.specs.declared.field.Raw.{Raw}
use Rattle.bufr_fields.specs.declared.field.Raw.TheVariants.{Number, Text}
use Rattle.bufr_fields.specs.declared.field.Field.{Field}
use Rattle.bufr_fields.specs.Forms.{has_form_by}
use Rattle.bufr_fields.specs.DecimalTexts.{units_in}
use Rattle.bufr_fields.specs.Limits.{most_decimal_scale}
use Rattle.bufr_listing.specs.declared.fault.ListingFault.{ListingFault}
use Rattle.bufr_listing.specs.declared.fault.ListingFault.TheVariants.{BadLine, BadValue}
use Rattle.bufr_listing.specs.Listings.{field_line}

-- ---- texts between quotes

-- the value of a hexadecimal digit, 0 for any other character
abbrev pub hex_value : ℕ → ℕ
hex_value c = unwrap_or (hex_digit_value c) 0

-- whether the first octet is a backslash and two digits
abbrev pub is_escaped : List ℕ → Bool
is_escaped text = get_or text 0 0 == 92

-- the first octet
abbrev pub octet_at : List ℕ → ℕ
octet_at text =
    if is_escaped text
    then 16 * hex_value (get_or text 1 0) + hex_value (get_or text 2 0)
    else get_or text 0 0

-- the text after the first octet, which takes three characters after a backslash
abbrev pub behind_octet : List ℕ → List ℕ
behind_octet text = drop (if is_escaped text then 3 else 1) text

-- the first `n` octets of a text
unfoldable pub unquoted : ℕ → List ℕ → List ℕ
unquoted zero text = []
unquoted (suc n) text = octet_at text ∷ unquoted n (behind_octet text)

-- ---- the only candidate

-- whether a word is `missing`
abbrev pub is_missing_word : List ℕ → Bool
is_missing_word word = bytes_eq word (codes "missing")

-- an integer, or 0 for a negative one
abbrev pub natural_part : ℤ → ℕ
natural_part (pos n) = n
natural_part (negsuc n) = 0

-- the `count` octets that could print a word
abbrev pub text_in : ℕ → List ℕ → List ℕ
text_in count word =
    if is_missing_word word then replicate count 255 else unquoted count (drop 1 word)

-- the number that could print a word: all ones for `missing`, else its units above the reference
-- value
abbrev pub number_in : Spec → List ℕ → ℕ
number_in spec word =
    if is_missing_word word
    then 2 ^ spec.width - 1
    else natural_part (units_in spec.scale word -ℤ spec.reference)

-- the raw value of a kind that could print a word
abbrev pub raw_by : Kind → Spec → List ℕ → Raw
raw_by kinds.Text spec word = Text (text_in (spec.width / 8) word)
raw_by kind spec word = Number (number_in spec word)

-- the raw value of a spec that could print a word
abbrev pub raw_in : Spec → List ℕ → Raw
raw_in spec word = raw_by spec.kind spec word

-- the field that could print a line: six digits, a space, and the value
abbrev pub field_in : ℕ → Spec → List ℕ → Field
field_in d spec text = record { fxy = d; spec = spec; raw = raw_in spec (drop 7 text) }

-- ---- reading the line

-- L1 if the line does not begin with the descriptor and a space, else L2
abbrev pub field_fault : ℕ → ℕ → List ℕ → ListingFault
field_fault d n text =
    if bytes_eq (take 7 text) (six_digits d ++ 32 ∷ []) then BadValue n else BadLine n

-- the candidate, if decimals have its scale, its raw value has its spec's form, and it prints this
-- line
abbrev pub read_field : ℕ → Spec → ℕ → List ℕ → Result Field ListingFault
read_field d spec n text =
    if is_within most_decimal_scale spec.scale
    && has_form_by spec.kind spec.width (raw_in spec (drop 7 text))
    && bytes_eq (field_line (field_in d spec text)) text
    then Ok (field_in d spec text) else Err (field_fault d n text)
