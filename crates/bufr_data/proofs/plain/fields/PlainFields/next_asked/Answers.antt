-- A field that is not chosen is one more of those skipped.
use Rattle.std.proofs.Common.{sym, subst, ◌∙◌}
use Rattle.bufr_data.specs.Handed.{PassesUnasked}
use Rattle.bufr_data.proofs.AskedFacts.{one_passed, on_refusal}
use Rattle.bufr_data.proofs.plain.fields.PlainFields.next_asked.Goals as goal

pub loop-field-preserved-else-asks : goal.loop-field-preserved-else-asks
loop-field-preserved-else-asks g c =
    let first = rw c.in-Some.is at c.in_ok-field.ensures.found in
    one_passed (g.A.Asks.is_asked c.args.asked.now) c.args.self.now c.loop-field.self
    c.next.new.self c.loop-field.invariant
    (c.in-Some.field, sym c.asks.ensures ∙ c.if-asks.false, first)

pub loop-field-preserved : goal.loop-field-preserved
loop-field-preserved g c =
    let first = rw c.in-Some.is at c.in_ok-field.ensures.found in
    one_passed (g.A.Asks.is_asked c.args.asked.now) c.args.self.now c.loop-field.self
    c.next.new.self c.loop-field.invariant
    (c.in-Some.field, sym c.asks.ensures ∙ c.if-asks.false, first)

pub returns-in_err-field-clause-err : goal.returns-in_err-field-clause-err
returns-in_err-field-clause-err g c =
    on_refusal _
    (subst (PassesUnasked (g.A.Asks.is_asked c.args.asked.now) c.args.self.now)
    (sym c.in_err-field.ensures.err) c.loop-field.invariant)
