-- The values of fields as a row shows them (this project's own): as in a listing, but a text has no
-- quotes around it and no padding at its end, and a missing value is empty.
use Rattle.std.specs.Prelude.{ℕ, ◌==◌, ◌&&◌, ◌||◌, not, Bool, List, [], ◌∷◌, nat_le}
use Rattle.std.specs.Prelude.{if◌then◌else◌}
use Rattle.std.specs.List.{flat_map, list_all}
use Rattle.hex.specs.Hex.{encode_lower}
use Rattle.bufr_fields.specs.declared.field.Raw.{Raw}
use Rattle.bufr_fields.specs.declared.field.Raw.TheVariants.{Number, Text}
use Rattle.bufr_fields.specs.declared.field.Field.{Field}
pub use Rattle.bufr_fields.specs.Values.{text_of}
use Rattle.bufr_fields.specs.Values.{is_missing, value}
use Rattle.bufr_listing.specs.Listings.{number_word}

-- whether an octet pads a text: a space or NUL
abbrev pub is_padding : ℕ → Bool
is_padding c = c == 32 || c == 0

-- a text without the spaces and NUL octets at its end
unfoldable pub trimmed : List ℕ → List ℕ
trimmed [] = []
trimmed (c ∷ text) = if list_all is_padding (c ∷ text) then [] else c ∷ trimmed text

-- whether an octet is shown as itself: 0x20 to 0x7E, but not the backslash
abbrev pub is_shown_as_itself : ℕ → Bool
is_shown_as_itself c = nat_le 32 c && nat_le c 126 && not (c == 92)

-- an octet of a text: itself, or a backslash and two lower hexadecimal digits
abbrev pub shown_octet : ℕ → List ℕ
shown_octet c = if is_shown_as_itself c then c ∷ [] else 92 ∷ encode_lower (c ∷ [])

-- the octets of a text
abbrev pub shown_text : List ℕ → List ℕ
shown_text octets = flat_map shown_octet octets

-- a raw value that is not missing: the digits of a number, by its scale and reference value, or a
-- text
abbrev pub shown_raw : Field → Raw → List ℕ
shown_raw f (Number n) = number_word (value f)
shown_raw f (Text octets) = shown_text (trimmed octets)

-- the value of a field; empty if it is missing
abbrev pub shown_value : Field → List ℕ
shown_value f = if is_missing f then [] else shown_raw f f.raw
