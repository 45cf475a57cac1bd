use Rattle.std.proofs.Common.{sym, ap, subst, ◌∙◌}
use Rattle.bufr_data.specs.Handed.{StandLaid, fields_laid}
use Rattle.bufr_data.proofs.PlainFacts.Layouts.{none_left, first_handed, first_there}
use Rattle.bufr_data.proofs.plain.laid_fields.LaidFields.next.Goals as goal

pub returns-in_default-clause-found : goal.returns-in_default-clause-found
returns-in_default-clause-found c =
    let none = none_left c.self.inside.fields.now c.self.inside.reader c.in_default.ensures.cases in
    let empty = sym c.self.view_is ∙ none.1 in (empty, empty)

pub take_raw-requires : goal.take_raw-requires
take_raw-requires c =
    first_there c.in-Some.others.now c.in-Some.field.now c.self.inside.reader
    (subst (λ fields. StandLaid fields c.self.inside.reader) c.in-Some.ensures.cases.0
    c.self.invariant)

pub invariant_of-self : goal.invariant_of-self
invariant_of-self c =
    (first_handed c.self.inside.fields.now c.in-Some.others.now c.in-Some.field.now
    c.self.inside.reader c.take_raw.new.self c.in-Ok.raw c.in-Some.ensures.cases.0
    c.self.invariant c.in-Ok.ensures.exact).there

pub invariant_of-self-in-Err : goal.invariant_of-self-in-Err
invariant_of-self-in-Err c =
    subst (StandLaid c.self.inside.fields.now) (sym c.in-Err.ensures.err) c.self.invariant

pub returns-in-Ok-clause-found : goal.returns-in-Ok-clause-found
returns-in-Ok-clause-found c =
    rw c.by_parts.ensures
    (sym c.self.view_is
    ∙ (first_handed c.self.inside.fields.now c.in-Some.others.now c.in-Some.field.now
    c.self.inside.reader c.take_raw.new.self c.in-Ok.raw c.in-Some.ensures.cases.0
    c.self.invariant c.in-Ok.ensures.exact).is)

pub returns-in-Err-clause-err : goal.returns-in-Err-clause-err
returns-in-Err-clause-err c =
    ap (fields_laid c.self.inside.fields.now) c.in-Err.ensures.err ∙ c.self.view_is
