use Rattle.std.proofs.Common.{ap, length, ◌==◌, ◌∙◌}
use Rattle.bufr_bits.specs.Ends.{left}
use Rattle.bufr_data.proofs.PlainFacts.Placed.{none_alike}
use Rattle.bufr_data.proofs.plain.placed_fields.PlacedFields.is_empty.Goals as goal

pub returns : goal.returns
returns c =
    c.is_empty.ensures ∙ none_alike c.self.inside.places.now (left c.self.inside.reader) c.self.invariant
    ∙ ap (λ fields. length fields == 0) c.self.view_is
