use Rattle.std.proofs.Common.{sym, subst, ◌∙◌, arith}
use Rattle.bufr_data.specs.Handed.{FirstIsAsked, moved_on}
use Rattle.bufr_data.proofs.PlainFacts.Layouts.{none_passed, one_more_passed, first_asked, none_left}
use Rattle.bufr_data.proofs.plain.laid_fields.first_asked.Goals as goal

pub loop-field-init : goal.loop-field-init
loop-field-init g c =
    none_passed (g.A.Asks.is_asked c.args.asked.now) c.args.fields.now c.args.reader.now c.requires

pub returns-then-asks-clause-asked : goal.returns-then-asks-clause-asked
returns-then-asks-clause-asked g c =
    first_asked (g.A.Asks.is_asked c.args.asked.now) c.loop-field.left.now c.in-Some.others.now c.in-Some.field.now
    (moved_on c.args.reader.now c.loop-field.bits) c.in-Some.ensures.cases.0
    (sym c.asks.ensures ∙ c.if-asks.true)

pub overflow_add-bits : goal.overflow_add-bits
overflow_add-bits g c =
    let more =
    one_more_passed (g.A.Asks.is_asked c.args.asked.now) c.args.fields.now c.loop-field.left.now c.in-Some.others.now
    c.in-Some.field.now c.args.reader.now c.loop-field.bits c.present_bits-bits.result
    c.in-Some.ensures.cases.0 c.loop-field.invariant (sym c.asks.ensures ∙ c.if-asks.false)
    c.present_bits-bits.ensures in
    omega (arith, more.within, c.left-most.ensures.bits)

pub loop-field-preserved : goal.loop-field-preserved
loop-field-preserved g c =
    one_more_passed (g.A.Asks.is_asked c.args.asked.now) c.args.fields.now c.loop-field.left.now c.in-Some.others.now
    c.in-Some.field.now c.args.reader.now c.loop-field.bits c.present_bits-bits.result
    c.in-Some.ensures.cases.0 c.loop-field.invariant (sym c.asks.ensures ∙ c.if-asks.false)
    c.present_bits-bits.ensures

pub returns-clause-asked : goal.returns-clause-asked
returns-clause-asked g c =
    let none =
    none_left c.loop-field.left.now (moved_on c.args.reader.now c.loop-field.bits)
    c.in_default.ensures.cases in
    subst (FirstIsAsked (g.A.Asks.is_asked c.args.asked.now)) (sym none.1) tt
