-- The values of fields and their texts (FM 94 BUFR, Table B: unit, scale, reference value and data
-- width; regulation 94.1.5: a missing value has all bits one).
use Rattle.std.specs.Prelude.{ℕ, zero, suc, ◌+◌, ◌-◌, ◌^◌, ◌==◌, ◌&&◌, not, Bool, List, [], ◌∷◌}
use Rattle.std.specs.Prelude.{◌++◌, length, take, drop, replicate, decimal, Option, Some, None, ℤ}
use Rattle.std.specs.Prelude.{pos, negsuc, ◌+ℤ◌, if◌then◌else◌}
use Rattle.std.specs.List.{list_all}
use Rattle.bufr_tables.specs.declared.element.Kind.{Kind}
use Rattle.bufr_tables.specs.declared.element.Kind.TheVariants as kinds
use Rattle.bufr_tables.specs.Elements.{same_kind}
use Rattle.bufr_expand.specs.OperatorsInForce.{is_within}
use Rattle.bufr_fields.specs.declared.field.Raw.{Raw}
use Rattle.bufr_fields.specs.declared.field.Raw.TheVariants.{Number, Text}
use Rattle.bufr_fields.specs.declared.field.Field.{Field}
use Rattle.bufr_fields.specs.declared.field.NumberField.{NumberField}
use Rattle.bufr_fields.specs.declared.field.Decimal.{Decimal}
use Rattle.bufr_fields.specs.Forms.{has_form_by}
use Rattle.bufr_fields.specs.Limits.{most_decimal_scale}

-- whether all bits of a raw value are one, in a field of `width` bits
abbrev pub is_all_ones : ℕ → Raw → Bool
is_all_ones width (Number n) = n + 1 == 2 ^ width
is_all_ones width (Text octets) = list_all (λ x. x == 255) octets

-- whether a field is missing: all bits are one, the width is not 1, it is no factor and its raw
-- value fits its spec (94.1.5)
abbrev pub is_missing : Field → Bool
is_missing f = has_form_by f.spec.kind f.spec.width f.raw && is_all_ones f.spec.width f.raw
    && not (f.spec.width == 1) && not (same_kind f.spec.kind kinds.Count)

-- a field with a number, as a field
abbrev pub as_field : NumberField → Field
as_field f = record { fxy = f.fxy; spec = f.spec; raw = Number f.number }

-- a decimal, if its scale is -600 to 600
abbrev pub decimal_within : ℤ → ℤ → Option Decimal
decimal_within units scale = if is_within most_decimal_scale scale
    then Some (record { units = units; scale = scale }) else None

-- the value of a field by its kind and raw value; texts have none
abbrev pub value_by : Kind → Raw → Field → Option Decimal
value_by kinds.Text raw f = None
value_by kind (Text octets) f = None
value_by kind (Number n) f = if is_missing f then None
    else decimal_within (pos n +ℤ f.spec.reference) f.spec.scale

-- the value of a number that is not missing: the raw number plus the reference value, times ten to
-- the power of minus the scale (Table B)
abbrev pub value : Field → Option Decimal
value f = value_by f.spec.kind f.raw f

-- ---- the text of a value

-- the absolute value of an integer
abbrev pub size_of : ℤ → ℕ
size_of (pos n) = n
size_of (negsuc n) = suc n

-- `-` for a negative number
abbrev pub sign_of : ℤ → List ℕ
sign_of (pos n) = []
sign_of (negsuc n) = 45 ∷ []

-- a point before the last `places` digits
abbrev pub pointed : ℕ → List ℕ → List ℕ
pointed places digits = take (length digits - places) digits ++ 46
    ∷ drop (length digits - places) digits

-- the digits of a number by its scale: above 0, that many digits after a point and at least one
-- before it; else the digits and minus the scale zeros, with zero as one `0`
abbrev pub digits_by : ℤ → ℕ → List ℕ
digits_by (pos zero) n = decimal n
digits_by (pos (suc s)) n = pointed (suc s)
    (replicate (suc (suc s) - length (decimal n)) 48 ++ decimal n)
digits_by (negsuc s) n = if n == 0 then decimal 0 else decimal n ++ replicate (suc s) 48

-- the text of a decimal: sign and digits
abbrev pub text_of : Decimal → List ℕ
text_of d = sign_of d.units ++ digits_by d.scale (size_of d.units)
