-- The first chosen field is handed out if it is a number.
use Rattle.std.proofs.Common.{Some, sym, subst, ◌∙◌}
use Rattle.bufr_fields.specs.declared.field.Raw.TheVariants.{Number}
use Rattle.bufr_fields.specs.declared.field.NumberField.{NumberField}
use Rattle.bufr_data.specs.Handed.{StandLaid, fields_laid}
use Rattle.bufr_fields.specs.Values.{as_field}
use Rattle.bufr_data.proofs.AskedFacts.{asked_handed}
use Rattle.bufr_data.proofs.PlainFacts.Layouts.{first_handed, first_there}
use Rattle.bufr_data.proofs.plain.laid_fields.LaidFields.next_asked_number.Goals as goal

pub take_number-requires : goal.take_number-requires
take_number-requires g c =
    first_there c.in-Some.others.now c.in-Some.field.now c.self.inside.reader
    (subst (λ fields. StandLaid fields c.self.inside.reader) c.in-Some.ensures.cases.0
    c.self.invariant)

pub invariant_of-self-2 : goal.invariant_of-self-2
invariant_of-self-2 g c =
    (first_handed c.self.inside.fields.now c.in-Some.others.now c.in-Some.field.now
    c.self.inside.reader c.take_number.new.self (Number c.in_ok-number.number)
    c.in-Some.ensures.cases.0 c.self.invariant c.in_ok-number.ensures.found).there

pub returns-clause-found : goal.returns-clause-found
returns-clause-found g c =
    let field = c.in-Some.field.now in
    let number : NumberField = record {
      fxy = field.fxy;
      spec = field.spec;
      number = c.in_ok-number.number;
    } in
    let h =
    first_handed c.self.inside.fields.now c.in-Some.others.now field c.self.inside.reader
    c.take_number.new.self (Number c.in_ok-number.number) c.in-Some.ensures.cases.0
    c.self.invariant c.in_ok-number.ensures.found in
    rw c.by_parts.ensures
    (asked_handed (g.A.Asks.is_asked c.args.asked.now) c.args.self.now c.pass_unasked.new.self
    (fields_laid c.in-Some.others.now c.take_number.new.self) (Some (as_field number))
    c.pass_unasked.ensures.passed c.pass_unasked.ensures.asked (sym c.self.view_is ∙ h.is))
