use Rattle.bufr_fields.specs.DecimalTextLaws.{units_of_decimal}
use Rattle.bufr_fields.proofs.laws.texts_have_one_decimal.Goals as goal

pub returns : goal.returns
returns c = units_of_decimal
