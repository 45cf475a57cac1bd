-- The raw values that print words, read from the left.
use Rattle.std.specs.Prelude.{ℕ, zero, suc, ◌+◌, ◌-◌, ◌*◌, ◌/◌, ◌^◌, ◌==◌, ◌&&◌, ◌||◌, not, Bool}
use Rattle.std.specs.Prelude.{List, [], ◌∷◌, replicate, Option, Some, None, option_map}
use Rattle.std.specs.Prelude.{option_and_then, ℤ, pos, negsuc, ◌-ℤ◌, nat_le, nat_lt, if◌then◌else◌}
use Rattle.std.specs.List.{list_all}
use Rattle.std.specs.Str.{bytes_eq}
use Rattle.bufr_tables.specs.declared.element.Kind.{Kind}
use Rattle.bufr_tables.specs.declared.element.Kind.TheVariants as kinds
use Rattle.bufr_tables.specs.Elements.{same_kind}
use Rattle.bufr_expand.specs.declared.operators.Spec.{Spec}
use Rattle.bufr_expand.specs.OperatorsInForce.{is_within}
use Rattle.bufr_fields.specs.declared.field.Raw.{Raw}
use Rattle.bufr_fields.specs.declared.field.Raw.TheVariants.{Number, Text}
use Rattle.bufr_fields.specs.declared.field.Decimal.{Decimal}
use Rattle.bufr_fields.specs.DecimalTexts.{decimal_of}
use Rattle.bufr_fields.specs.Limits.{most_raw_bits, most_decimal_scale}
use Rattle.bufr_listing.specs.Listings.{is_literal}
use Rattle.bufr_listing_reader.specs.FieldLines.{is_missing_word}

-- ---- texts

-- the value of a lower hexadecimal digit
abbrev pub lower_value : ℕ → Option ℕ
lower_value c =
    if nat_le 48 c && nat_le c 57 then Some (c - 48)
    else if nat_le 97 c && nat_le c 102 then Some (c - 97 + 10)
    else None

-- the octet of two hexadecimal digits
abbrev pub pair_of : Option ℕ → Option ℕ → Option ℕ
pair_of (Some high) (Some low) = Some (16 * high + low)
pair_of _ _ = None

-- an octet from its digits, and the text after it; none that appears as itself
abbrev pub escaped : Option ℕ → List ℕ → Option (ℕ × List ℕ)
escaped None behind = None
escaped (Some c) behind = if is_literal c then None else Some (c, behind)

-- the octet after a backslash
abbrev pub escaped_octet : List ℕ → Option (ℕ × List ℕ)
escaped_octet (high ∷ low ∷ behind) = escaped (pair_of (lower_value high) (lower_value low)) behind
escaped_octet _ = None

-- the first octet of a text between quotes, and the text after it
abbrev pub first_octet : List ℕ → Option (ℕ × List ℕ)
first_octet [] = None
first_octet (c ∷ behind) =
    if c == 92 then escaped_octet behind
    else if is_literal c then Some (c, behind) else None

-- an octet before others, if there are others
abbrev pub then_octets : ℕ → Option (List ℕ) → Option (List ℕ)
then_octets c octets = option_map (λ cs. c ∷ cs) octets

-- `n` octets, and the quote that ends them
unfoldable pub octets_before : ℕ → List ℕ → Option (List ℕ)
octets_before zero text = if bytes_eq text (34 ∷ []) then Some [] else None
octets_before (suc n) text =
    option_and_then (λ (x : ℕ × List ℕ). then_octets x.0 (octets_before n x.1)) (first_octet text)

-- the `count` octets of a word in quotes
abbrev pub octets_of : ℕ → List ℕ → Option (List ℕ)
octets_of count [] = None
octets_of count (c ∷ rest) = if c == 34 then octets_before count rest else None

-- whether all octets are 255, a missing text
abbrev pub are_ones : List ℕ → Bool
are_ones octets = list_all (λ x. x == 255) octets

-- octets other than those of a missing value
abbrev pub unless_ones : Bool → Option (List ℕ) → Option (List ℕ)
unless_ones may_be_missing None = None
unless_ones may_be_missing (Some octets) =
    if may_be_missing && are_ones octets then None else Some octets

-- the octets of a text field of `width` bits that print a word
abbrev pub text_of : ℕ → List ℕ → Option (List ℕ)
text_of width word =
    let may_be_missing = not (width == 1) in
    if is_missing_word word
    then (if may_be_missing then Some (replicate (width / 8) 255) else None)
    else unless_ones may_be_missing (octets_of (width / 8) word)

-- ---- numbers

-- whether all ones mean a missing value: not in one bit, nor in a delayed replication factor
abbrev pub may_be_missing : Spec → Bool
may_be_missing spec = not (spec.width == 1) && not (same_kind spec.kind kinds.Count)

-- the number of a missing value, if there is one
abbrev pub missing_number : Spec → Option ℕ
missing_number spec = if may_be_missing spec then Some (2 ^ spec.width - 1) else None

-- a number that fits the spec's bits and is no missing value
abbrev pub unless_missing : Spec → ℕ → Option ℕ
unless_missing spec n =
    if nat_lt (2 ^ spec.width - 1) n || (n == 2 ^ spec.width - 1 && may_be_missing spec)
    then None
    else Some n

-- the raw number of a value above the reference value; none below it
abbrev pub number_above : Spec → ℤ → Option ℕ
number_above spec (pos n) = unless_missing spec n
number_above spec (negsuc n) = None

-- the number of a spec that prints a word
abbrev pub number_of : Spec → List ℕ → Option ℕ
number_of spec word =
    if nat_lt most_raw_bits spec.width then None
    else if is_missing_word word
    then missing_number spec
    else option_and_then (λ (d : Decimal). number_above spec (d.units -ℤ spec.reference))
    (decimal_of spec.scale word)

-- ---- raw values

-- the raw value of a kind that prints a word
abbrev pub raw_of_kind : Kind → Spec → List ℕ → Option Raw
raw_of_kind kinds.Text spec word = option_map (λ octets. Text octets) (text_of spec.width word)
raw_of_kind kind spec word = option_map (λ n. Number n) (number_of spec word)

-- the raw value of a spec that prints a word
abbrev pub raw_of : Spec → List ℕ → Option Raw
raw_of spec word =
    if is_within most_decimal_scale spec.scale then raw_of_kind spec.kind spec word else None
