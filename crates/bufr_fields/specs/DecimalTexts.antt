-- The only decimal of a scale that can print a text. No grammar of numbers: a text is a decimal's
-- if this candidate prints it.
use Rattle.std.specs.Prelude.{◌≡◌, ℕ, zero, suc, ◌-◌, ◌^◌, ◌==◌, Bool, true, false, List, []}
use Rattle.std.specs.Prelude.{◌∷◌, length, take, drop, get_or, filter, nat_lt, Option, Some, None}
use Rattle.std.specs.Prelude.{ℤ, pos, negsuc, neg_ℤ, FitsSigned, if◌then◌else◌}
use Rattle.std.specs.Char.{is_ascii_digit}
use Rattle.std.specs.Int.{w128}
use Rattle.std.specs.Str.{bytes_eq}
use Rattle.std.specs.Str.Parse.{digits_value}
use Rattle.bufr_expand.specs.OperatorsInForce.{is_within}
use Rattle.bufr_fields.specs.declared.field.Decimal.{Decimal}
use Rattle.bufr_fields.specs.Values.{digits_by, text_of}
use Rattle.bufr_fields.specs.Limits.{most_decimal_scale}

-- the digits in a text, whatever is between them
abbrev pub digits_in : List ℕ → List ℕ
digits_in text = filter is_ascii_digit text

-- a text without the zeros that a negative scale puts at its end
abbrev pub before_zeros : ℤ → List ℕ → List ℕ
before_zeros (pos s) text = text
before_zeros (negsuc s) text = take (length text - suc s) text

-- the only number at a scale that can have a text's digits
abbrev pub size_in : ℤ → List ℕ → ℕ
size_in scale text = digits_value 10 (digits_in (before_zeros scale text))

-- a number with the sign at the start of a text
abbrev pub signed_as : List ℕ → ℕ → ℤ
signed_as [] n = pos n
signed_as (c ∷ rest) n = if c == 45 then neg_ℤ (pos n) else pos n

-- the only units at a scale that can print a text
abbrev pub units_in : ℤ → List ℕ → ℤ
units_in scale text = signed_as text (size_in scale text)

-- a decimal as `Decimal` holds it: units of 128 bits with a sign, a scale from -600 to 600
pub record IsDecimal (d : Decimal) : Type 0 where
  pub units : FitsSigned w128 d.units
  pub scale : is_within most_decimal_scale d.scale ≡ true

-- ---- reading

-- whether a text begins with a minus
abbrev pub is_minus : List ℕ → Bool
is_minus text = get_or text 0 0 == 45

-- a text without a minus at its start
abbrev pub without_minus : List ℕ → List ℕ
without_minus text = if is_minus text then drop 1 text else text

-- the units of a number with or without a minus, if they fit 128 bits; zero has no minus
abbrev pub units_by : Bool → ℕ → Option ℤ
units_by false n = if nat_lt n (2 ^ 127) then Some (pos n) else None
units_by true zero = None
units_by true (suc n) = if nat_lt n (2 ^ 127) then Some (negsuc n) else None

-- the decimal of these units, if there are units and the text is its own
abbrev pub decimal_if : Bool → ℤ → Option ℤ → Option Decimal
decimal_if holds scale None = None
decimal_if holds scale (Some units) =
    if holds then Some (record { units = units; scale = scale }) else None

-- the decimal of a number with the text's sign, if it prints the text
abbrev pub decimal_by : ℤ → List ℕ → ℕ → Option Decimal
decimal_by scale text n =
    decimal_if (bytes_eq (digits_by scale n) (without_minus text)) scale
    (units_by (is_minus text) n)

-- the decimal of a scale that prints a text
abbrev pub decimal_of : ℤ → List ℕ → Option Decimal
decimal_of scale text =
    if is_within most_decimal_scale scale then decimal_by scale text (size_in scale text)
    else None

-- ---- laws

-- a decimal's units are the only ones that can print its text
abbrev pub UnitsOfTexts : Type 0
UnitsOfTexts = (d : Decimal) → IsDecimal d → units_in d.scale (text_of d) ≡ d.units
