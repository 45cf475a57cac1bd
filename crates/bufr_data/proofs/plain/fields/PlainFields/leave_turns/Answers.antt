-- Turns without fields left are left.
use Rattle.std.proofs.Common.{sym, ap, subst, ◌∙◌}
use Rattle.bufr_data.specs.Handed.{StandFrom, fields_from}
use Rattle.bufr_data.proofs.PlainFacts.LaidTurns.{turns_left}
use Rattle.bufr_data.proofs.plain.fields.PlainFields.leave_turns.Goals as goal

pub invariant_of-self : goal.invariant_of-self
invariant_of-self c =
    let w = c.self.inside in
    subst (λ k. StandFrom k w.due w.walk w.reader) (sym c.take.ensures.after)
    (turns_left w.laid w.due w.walk w.reader c.in-Some.laid c.in-Some.is c.self.invariant
    c.in-None.ensures.none).0

pub returns-in-None : goal.returns-in-None
returns-in-None c =
    let w = c.self.inside in
    ap (λ k. fields_from k w.due w.walk w.reader) c.take.ensures.after
    ∙ (turns_left w.laid w.due w.walk w.reader c.in-Some.laid c.in-Some.is c.self.invariant
    c.in-None.ensures.none).1
    ∙ c.self.view_is
