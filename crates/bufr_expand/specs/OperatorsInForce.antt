-- The spec of an element under operators, computed (FM 94 BUFR, Table C: 201, 202, 207 and 208).
use Rattle.std.specs.Prelude.{ℕ, ◌+◌, ◌*◌, ◌/◌, ◌%◌, ◌^◌, ◌==◌, ◌&&◌, Bool, Option, Some, None, ℤ}
use Rattle.std.specs.Prelude.{pos, negsuc, ◌+ℤ◌, ◌-ℤ◌, ◌*ℤ◌, nat_lt, nat_le, if◌then◌else◌}
use Rattle.bufr_tables.specs.declared.element.Element.{Element}
use Rattle.bufr_tables.specs.declared.element.Kind.{Kind}
use Rattle.bufr_tables.specs.declared.element.Kind.TheVariants as kinds
use Rattle.bufr_tables.specs.Descriptors.{x_of, y_of}
use Rattle.bufr_expand.specs.declared.operators.Operators.{Operators}
use Rattle.bufr_expand.specs.declared.operators.Spec.{Spec}
use Rattle.bufr_expand.specs.Limits.{most_number_bits, most_text_bits, most_scale, most_reference}

-- no operator in force
abbrev pub none_in_force : Operators
none_in_force = record { add_width = None; add_scale = None; increase = None; characters = None }

-- an operand; 0 cancels
abbrev pub operand : ℕ → Option ℕ
operand y = if y == 0 then None else Some y

-- the operators in force after one more, by its X: 201 "change data width", 202 "change scale", 207
-- "increase scale, reference value and data width", 208 "change width of CCITT IA5 field" (Table C)
abbrev pub in_force_after : Operators → ℕ → Operators
in_force_after before fxy =
    if x_of fxy == 1 then record before { add_width = operand (y_of fxy) }
    else if x_of fxy == 2 then record before { add_scale = operand (y_of fxy) }
    else if x_of fxy == 7 then record before { increase = operand (y_of fxy) }
    else record before { characters = operand (y_of fxy) }

-- what 201 or 202 adds
abbrev pub added : Option ℕ → ℤ
added None = pos 0
added (Some y) = pos y -ℤ pos 128

-- the Y of 207, 0 if it is not in force: it adds to the scale and is the power of ten for the
-- reference value
abbrev pub increase_of : Option ℕ → ℕ
increase_of None = 0
increase_of (Some y) = y

-- what 207 adds to the width, the fraction discarded
abbrev pub widening : Option ℕ → ℕ
widening None = 0
widening (Some y) = (10 * y + 2) / 3

-- whether an integer is at most `limit` above or below 0
abbrev pub is_within : ℕ → ℤ → Bool
is_within limit (pos n) = nat_le n limit
is_within limit (negsuc n) = nat_lt n limit

-- the spec of a number, if it has 1 to 63 bits and its reference value is within the limit
abbrev pub number_spec : Kind → ℤ → ℤ → ℤ → Option Spec
number_spec kind scale reference (negsuc width) = None
number_spec kind scale reference (pos width) =
    if nat_le 1 width && nat_le width most_number_bits && is_within most_reference reference
    then Some (record { kind = kind; scale = scale; reference = reference; width = width })
    else None

-- the spec of a text, if it has 8 to 65,528 bits in whole octets
abbrev pub text_spec : ℕ → Option Spec
text_spec width =
    if nat_le 8 width && nat_le width most_text_bits && (width % 8 == 0)
    then Some (record { kind = kinds.Text; scale = pos 0; reference = pos 0; width = width })
    else None

-- the bits of a text: 208 gives it Y octets
abbrev pub text_width : ℕ → Option ℕ → ℕ
text_width width None = width
text_width width (Some y) = 8 * y

-- the spec of an element that no operator changes, by its kind
abbrev pub untouched_by : Kind → Element → Option Spec
untouched_by kinds.Text row = text_spec row.width
untouched_by kind row =
    if is_within most_scale row.scale
    then number_spec kind row.scale row.reference (pos row.width) else None

-- the spec of an element that no operator changes, if it is within the limits
abbrev pub untouched : Element → Option Spec
untouched row = untouched_by row.kind row

-- the spec of a quantity under operators
abbrev pub quantity : Element → Operators → Option Spec
quantity row operators =
    if is_within most_scale row.scale
    then number_spec kinds.Quantity
    (row.scale +ℤ added operators.add_scale +ℤ pos (increase_of operators.increase))
    (row.reference *ℤ pos (10 ^ increase_of operators.increase))
    (pos row.width +ℤ added operators.add_width +ℤ pos (widening operators.increase))
    else None

-- the spec of an element by its kind: 208 acts on texts, the others on quantities outside class 31
abbrev pub effective_by : Kind → ℕ → Element → Operators → Option Spec
effective_by kinds.Text fxy row operators = text_spec (text_width row.width operators.characters)
effective_by kinds.Quantity fxy row operators =
    if x_of fxy == 31 then untouched row else quantity row operators
effective_by kind fxy row operators = untouched row

-- the spec of an element under operators, if it is within the limits
abbrev pub effective : ℕ → Element → Operators → Option Spec
effective fxy row operators = effective_by row.kind fxy row operators

-- the spec of a factor: a count, so its raw value is never missing
abbrev pub factor_spec : Element → Spec
factor_spec row = record { kind = kinds.Count; scale = pos 0; reference = pos 0; width = row.width }
