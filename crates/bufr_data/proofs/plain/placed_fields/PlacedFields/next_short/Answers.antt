use Rattle.std.proofs.Common.{sym, ◌∙◌}
use Rattle.bufr_bits.specs.Ends.{left}
use Rattle.bufr_fields.specs.declared.field.NumberField.{NumberField}
use Rattle.bufr_fields.specs.declared.field.Raw.TheVariants.{Number}
use Rattle.bufr_data.proofs.PlainFacts.Placed.{placed_handed, placed_greatest}
use Rattle.bufr_data.proofs.ShortFacts.{has_short}
use Rattle.bufr_data.proofs.plain.placed_fields.PlacedFields.next_short.Goals as goal

pub returns-clause-found : goal.returns-clause-found
returns-clause-found c =
    let place = c.in-Some.place.now in
    let field : NumberField = record {
      fxy = place.field.fxy;
      spec = place.field.spec;
      number = c.short_after-number.result;
    } in
    let handed =
    placed_handed c.self.inside.places.now c.in-Some.others.now place
    (left c.self.inside.reader) (left c.short_after-number.new.self)
    (Number c.short_after-number.result) c.in-Some.ensures.cases.0 c.self.invariant
    c.short_after-number.ensures.found in
    let greatest =
    sym (placed_greatest c.self.inside.places.now c.in-Some.others.now place
    (left c.self.inside.reader) c.in-Some.ensures.cases.0 c.self.invariant)
    ∙ c.in_ok-greatest.was in
    (field, rw c.of_raw.ensures (has_short field c.in_ok-greatest.greatest greatest), sym c.self.view_is ∙ handed.1)
