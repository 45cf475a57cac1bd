-- Short numbers: those of at most 16 bits without scale and reference value (FM 94 BUFR, Table B).
use Rattle.std.specs.Prelude.{◌≡◌, ℕ, ◌-◌, ◌^◌, ◌==◌, ◌&&◌, Bool, List, ◌∷◌, Option, Some, None, pos}
use Rattle.std.specs.Prelude.{option_map, nat_le, if◌then◌else◌}
use Rattle.bufr_tables.specs.declared.element.Kind.{Kind}
use Rattle.bufr_tables.specs.declared.element.Kind.TheVariants as kinds
use Rattle.bufr_tables.specs.Elements.{same_integer}
use Rattle.bufr_expand.specs.declared.operators.Spec.{Spec}
use Rattle.bufr_fields.specs.declared.field.Decimal.{Decimal}
use Rattle.bufr_fields.specs.declared.field.Field.{Field}
use Rattle.bufr_fields.specs.declared.field.NumberField.{NumberField}
use Rattle.bufr_fields.specs.Values.{as_field, value}
use Rattle.bufr_data.specs.declared.short.ShortNumber.{ShortNumber}

-- scale 0, reference value 0, and 2 to 16 bits: in one bit no number is missing
abbrev pub is_short : Spec → Bool
is_short spec = same_integer spec.scale (pos 0) && same_integer spec.reference (pos 0)
    && nat_le 2 spec.width && nat_le spec.width 16

-- the greatest number of a field, all bits one, if its numbers are short
abbrev pub greatest_by : Kind → Spec → Option ℕ
greatest_by kinds.Text spec = None
greatest_by kinds.Count spec = None
greatest_by kind spec = if is_short spec then Some (2 ^ spec.width - 1) else None

-- the greatest number of a field by its spec, if its numbers are short
abbrev pub greatest_short : Spec → Option ℕ
greatest_short spec = greatest_by spec.kind spec

-- the short number of a raw number: none if all bits are one (94.1.5)
abbrev pub short_of : ℕ → ℕ → ℕ → ShortNumber
short_of fxy raw greatest = record {
  fxy = fxy;
  number = if raw == greatest then None else Some raw;
}

-- the value of a short number
abbrev pub short_value : ShortNumber → Option Decimal
short_value short = option_map (λ n. record { units = pos n; scale = pos 0 }) short.number

-- the field has this descriptor and value
abbrev pub HasShort : NumberField → ShortNumber → Type 0
HasShort f short = (f.fxy ≡ short.fxy) × (value (as_field f) ≡ short_value short)

-- hands out the first field, a number, by its descriptor and value
abbrev pub HandsOutShort : List Field → ShortNumber → List Field → Type 0
HandsOutShort old short new = (f : NumberField) × HasShort f short × (old ≡ as_field f ∷ new)
