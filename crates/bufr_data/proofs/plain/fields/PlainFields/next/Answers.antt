-- Fields of turns come first, and then those along the walk.
use Rattle.std.proofs.Common.{sym, ap, subst, ◌∙◌}
use Rattle.std.proofs.lemmas.Result.{IfErr-weaker}
use Rattle.bufr_data.specs.Handed.{StandAhead, fields_ahead, fields_from}
use Rattle.bufr_data.proofs.PlainFacts.LaidTurns.{turns_left, handed_as}
use Rattle.bufr_data.proofs.plain.fields.PlainFields.next.Goals as goal

pub next_along-requires-in-Some : goal.next_along-requires-in-Some
next_along-requires-in-Some c =
    let w = c.self.inside in
    let unmoved = rw c.in_default.is at c.in_ok-field-in-Some.ensures.unmoved in
    subst (λ r. StandAhead w.due w.walk r) (sym unmoved)
    (turns_left w.laid w.due w.walk w.reader c.in-Some.laid c.in-Some.is c.self.invariant
    (rw c.in_default.is at c.in_ok-field-in-Some.ensures.none)).0

pub returns-in_default-clause-found : goal.returns-in_default-clause-found
returns-in_default-clause-found c =
    let w = c.self.inside in
    let n = c.next_along-in-Some.new in
    let unmoved = rw c.in_default.is at c.in_ok-field-in-Some.ensures.unmoved in
    handed_as c.next_along-in-Some.result _ _ _ _
    (ap (λ r. fields_ahead w.due w.walk r) unmoved
    ∙ (turns_left w.laid w.due w.walk w.reader c.in-Some.laid c.in-Some.is c.self.invariant
    (rw c.in_default.is at c.in_ok-field-in-Some.ensures.none)).1
    ∙ c.self.view_is ∙ c.lay_turns.ensures)
    (sym (ap (λ k. fields_from k n.due n.walk n.reader) c.take.ensures.after))
    c.next_along-in-Some.ensures.found

pub returns-in_default-clause-err : goal.returns-in_default-clause-err
returns-in_default-clause-err c =
    let w = c.self.inside in
    let n = c.next_along-in-Some.new in
    let unmoved = rw c.in_default.is at c.in_ok-field-in-Some.ensures.unmoved in
    IfErr-weaker c.next_along-in-Some.result _ _
    (λ refused same. ap (λ k. fields_from k n.due n.walk n.reader) c.take.ensures.after ∙ same
    ∙ ap (λ r. fields_ahead w.due w.walk r) unmoved
    ∙ (turns_left w.laid w.due w.walk w.reader c.in-Some.laid c.in-Some.is c.self.invariant
    (rw c.in_default.is at c.in_ok-field-in-Some.ensures.none)).1
    ∙ c.self.view_is ∙ c.lay_turns.ensures)
    c.next_along-in-Some.ensures.err
