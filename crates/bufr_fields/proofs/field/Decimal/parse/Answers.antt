-- A decimal that prints the text is the one candidate.
use Rattle.std.proofs.Common.{◌∙◌, FitsSigned, rules}
use Rattle.std.specs.Int.{w32}
use Rattle.std.proofs.lemmas.Int.{to_z-of_z}
use Rattle.bufr_fields.specs.DecimalTextLaws.{decimal_only}
use Rattle.bufr_fields.proofs.field.Decimal.parse.Goals as goal

pub returns-clause-only : goal.returns-clause-only
returns-clause-only c d is own e =
    let fits : FitsSigned w32 c.args.scale = search rules in
    let exact = simp to_z-of_z at c.parse.ensures in
    exact ∙ decimal_only c.args.scale c.args.text.now d is own e
