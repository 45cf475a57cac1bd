-- The fields of the turns come first, and then those that the walk finds after them.
use Rattle.std.proofs.Common.{sym, ap, subst, ◌∙◌}
use Rattle.bufr_data.specs.Handed.{StandFrom, fields_ahead, fields_from}
use Rattle.bufr_data.specs.Plain.LaidTurns.{fields_left}
use Rattle.bufr_data.proofs.PlainFacts.Handed.{stands_ready}
use Rattle.bufr_data.proofs.PlainFacts.LaidTurns.{turns_laid, stands_none, seen_none}
use Rattle.bufr_data.proofs.plain.fields.PlainFields.lay_even_turns.Goals as goal

pub invariant_of-self-2 : goal.invariant_of-self-2
invariant_of-self-2 c =
    let w = c.self.inside in
    let stand =
    stands_ready w.due w.walk w.reader c.in-Step.is
    (stands_none w.laid w.due w.walk w.reader c.in-None.is c.self.invariant) in
    let laid =
    turns_laid w.walk c.lay_turns.new.self c.in-Some-2.turns (fields_left c.of.result) w.reader
    stand (rw c.in-Some-2.is at c.in_ok-turns.ensures.passed) c.of.ensures in
    subst (λ k. StandFrom k w.due c.lay_turns.new.self w.reader) (sym c.replace.ensures.after)
    (c.in-Step.is, laid.0, laid.1)

pub returns : goal.returns
returns c =
    let w = c.self.inside in
    let stand =
    stands_ready w.due w.walk w.reader c.in-Step.is
    (stands_none w.laid w.due w.walk w.reader c.in-None.is c.self.invariant) in
    let laid =
    turns_laid w.walk c.lay_turns.new.self c.in-Some-2.turns (fields_left c.of.result) w.reader
    stand (rw c.in-Some-2.is at c.in_ok-turns.ensures.passed) c.of.ensures in
    ap (λ k. fields_from k w.due c.lay_turns.new.self w.reader) c.replace.ensures.after
    ∙ laid.2 ∙ ap (λ d. fields_ahead d w.walk w.reader) (sym c.in-Step.is)
    ∙ seen_none w.laid w.due w.walk w.reader c.args.self.now c.in-None.is c.self.view_is
