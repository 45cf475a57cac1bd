use Rattle.std.proofs.Common.{sym, ◌∙◌}
use Rattle.bufr_bits.specs.Ends.{left}
use Rattle.bufr_fields.specs.declared.field.Raw.TheVariants.{Number}
use Rattle.bufr_data.proofs.PlainFacts.Placed.{placed_there, placed_handed}
use Rattle.bufr_data.proofs.plain.placed_fields.PlacedFields.next_number.Goals as goal

pub number_after-requires-clause-within : goal.number_after-requires-clause-within
number_after-requires-clause-within c =
    (placed_there c.self.inside.places.now c.in-Some.others.now c.in-Some.place.now
    (left c.self.inside.reader) c.in-Some.ensures.cases.0 c.self.invariant).0

pub number_after-requires-clause-there : goal.number_after-requires-clause-there
number_after-requires-clause-there c =
    (placed_there c.self.inside.places.now c.in-Some.others.now c.in-Some.place.now
    (left c.self.inside.reader) c.in-Some.ensures.cases.0 c.self.invariant).1

pub invariant_of-self-2 : goal.invariant_of-self-2
invariant_of-self-2 c =
    (placed_handed c.self.inside.places.now c.in-Some.others.now c.in-Some.place.now
    (left c.self.inside.reader) (left c.number_after.new.self) (Number c.in_ok-number.number)
    c.in-Some.ensures.cases.0 c.self.invariant c.in_ok-number.ensures.found).0

pub returns-clause-found : goal.returns-clause-found
returns-clause-found c =
    rw c.by_parts.ensures
    (sym c.self.view_is
    ∙ (placed_handed c.self.inside.places.now c.in-Some.others.now c.in-Some.place.now
    (left c.self.inside.reader) (left c.number_after.new.self) (Number c.in_ok-number.number)
    c.in-Some.ensures.cases.0 c.self.invariant c.in_ok-number.ensures.found).1)
