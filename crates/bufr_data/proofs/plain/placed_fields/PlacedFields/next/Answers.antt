use Rattle.std.proofs.Common.{sym, ap, subst, ◌∙◌}
use Rattle.bufr_bits.specs.Ends.{BitPlace, left}
use Rattle.bufr_data.specs.Chosen.{fields_placed, HoldPlaced}
use Rattle.bufr_data.proofs.PlainFacts.Placed.{none_placed, placed_there, placed_handed}
use Rattle.bufr_data.proofs.plain.placed_fields.PlacedFields.next.Goals as goal

pub returns-in_default-clause-found : goal.returns-in_default-clause-found
returns-in_default-clause-found c =
    let none =
    none_placed c.self.inside.places.now (left c.self.inside.reader) c.in_default.ensures.cases in
    let empty = sym c.self.view_is ∙ none in (empty, empty)

pub raw_after-requires-clause-within : goal.raw_after-requires-clause-within
raw_after-requires-clause-within c =
    (placed_there c.self.inside.places.now c.in-Some.others.now c.in-Some.place.now
    (left c.self.inside.reader) c.in-Some.ensures.cases.0 c.self.invariant).0

pub raw_after-requires-clause-there : goal.raw_after-requires-clause-there
raw_after-requires-clause-there c =
    (placed_there c.self.inside.places.now c.in-Some.others.now c.in-Some.place.now
    (left c.self.inside.reader) c.in-Some.ensures.cases.0 c.self.invariant).1

pub invariant_of-self : goal.invariant_of-self
invariant_of-self c =
    (placed_handed c.self.inside.places.now c.in-Some.others.now c.in-Some.place.now
    (left c.self.inside.reader) (left c.raw_after.new.self) c.in-Ok.raw
    c.in-Some.ensures.cases.0 c.self.invariant c.in-Ok.ensures.exact).0

pub invariant_of-self-in-Err : goal.invariant_of-self-in-Err
invariant_of-self-in-Err c =
    subst (λ (r : BitPlace). HoldPlaced c.self.inside.places.now (left r))
    (sym c.in-Err.ensures.err) c.self.invariant

pub returns-in-Ok-clause-found : goal.returns-in-Ok-clause-found
returns-in-Ok-clause-found c =
    rw c.by_parts.ensures
    (sym c.self.view_is
    ∙ (placed_handed c.self.inside.places.now c.in-Some.others.now c.in-Some.place.now
    (left c.self.inside.reader) (left c.raw_after.new.self) c.in-Ok.raw
    c.in-Some.ensures.cases.0 c.self.invariant c.in-Ok.ensures.exact).1)

pub returns-in-Err-clause-err : goal.returns-in-Err-clause-err
returns-in-Err-clause-err c =
    ap (λ (r : BitPlace). fields_placed c.self.inside.places.now (left r)) c.in-Err.ensures.err
    ∙ c.self.view_is
