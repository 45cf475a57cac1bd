-- The fields left in a subset, plain or compressed.
use Rattle.std.specs.Prelude.{List}
use Rattle.bufr_fields.specs.declared.field.Field.{Field}
use Rattle.bufr_data.specs.declared.chosen.ChosenSource.{ChosenSource}
use Rattle.bufr_data.specs.declared.chosen.ChosenSource.TheVariants as chosens
use Rattle.bufr_data.specs.declared.fields.FieldSource.{FieldSource}
use Rattle.bufr_data.specs.declared.fields.FieldSource.TheVariants.{Plain, Laid, Compressed}

-- the fields left, whatever their source
abbrev pub left_of : FieldSource → List Field
left_of (Plain fields) = fields
left_of (Laid fields) = fields
left_of (Compressed fields) = fields

-- the chosen fields left, whatever their source
abbrev pub left_chosen : ChosenSource → List Field
left_chosen (chosens.Placed fields) = fields
left_chosen (chosens.Compressed fields) = fields
