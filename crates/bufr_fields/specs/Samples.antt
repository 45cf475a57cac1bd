-- Sample fields by kind, for the worked values.
use Rattle.std.specs.Prelude.{ℕ, List, [], ◌∷◌, pos}
use Rattle.bufr_tables.specs.declared.element.Kind.{Kind}
use Rattle.bufr_tables.specs.declared.element.Kind.TheVariants as kinds
use Rattle.bufr_expand.specs.declared.operators.Spec.{Spec}
use Rattle.bufr_fields.specs.declared.field.Raw.{Raw}
use Rattle.bufr_fields.specs.declared.field.Field.{Field}

-- the kinds of numbers: code table, flag table, quantity and factor
abbrev pub number_kinds : List Kind
number_kinds = kinds.Code ∷ kinds.Flag ∷ kinds.Quantity ∷ kinds.Count ∷ []

-- a spec of this kind and width, with scale and reference value 0
abbrev pub spec_of : Kind → ℕ → Spec
spec_of kind width = record { kind = kind; scale = pos 0; reference = pos 0; width = width }

-- a field of this kind and width, with scale and reference value 0
abbrev pub field_as : ℕ → Kind → ℕ → Raw → Field
field_as d kind width raw = record { fxy = d; spec = spec_of kind width; raw = raw }
