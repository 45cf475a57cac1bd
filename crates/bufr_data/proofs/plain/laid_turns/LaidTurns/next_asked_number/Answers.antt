-- A field that is not chosen is one more of those skipped.
use Rattle.std.proofs.Common.{length, sym, ap, subst, ◌∙◌, arith}
use Rattle.bufr_bits.specs.Ends as ends_of
use Rattle.bufr_expand.specs.Walks.{left}
use Rattle.bufr_fields.specs.declared.field.Raw.TheVariants.{Number}
use Rattle.bufr_data.specs.Handed.{StandThen, fields_then}
use Rattle.bufr_data.proofs.AskedFacts.{found_asked, one_passed}
use Rattle.bufr_data.proofs.PlainFacts.LaidTurns.{field_first}
use Rattle.bufr_data.proofs.PlainFacts.Layouts.{first_then, first_skipped, there_then}
use Rattle.bufr_data.proofs.plain.laid_turns.LaidTurns.next_asked_number.Goals as goal

pub read_number-requires : goal.read_number-requires
read_number-requires g c =
    let t = c.first.new.self in
    let later = left c.args.walk.now in
    there_then later _ _ c.in-Some.field c.loop-field.reader
    (field_first t.turn.items t.next t.turns c.in-Some.field c.in-Some.ensures.found)
    (subst (λ fs. StandThen later fs c.loop-field.reader) (sym c.in-Some.ensures.unmoved)
    c.loop-field.invariant.ahead)

pub returns-then-asks-clause-ahead : goal.returns-then-asks-clause-ahead
returns-then-asks-clause-ahead g c =
    let t = c.first.new.self in
    let later = left c.args.walk.now in
    (first_then later _ _ c.in-Some.field c.loop-field.reader c.read_number.new.reader
    (Number c.in_ok-number.number)
    (field_first t.turn.items t.next t.turns c.in-Some.field c.in-Some.ensures.found)
    (subst (λ fs. StandThen later fs c.loop-field.reader) (sym c.in-Some.ensures.unmoved)
    c.loop-field.invariant.ahead) c.in_ok-number.ensures.found).there

pub returns-then-asks-clause-found : goal.returns-then-asks-clause-found
returns-then-asks-clause-found g c =
    let t = c.first.new.self in
    let later = left c.args.walk.now in
    let h =
    first_then later _ _ c.in-Some.field c.loop-field.reader c.read_number.new.reader
    (Number c.in_ok-number.number)
    (field_first t.turn.items t.next t.turns c.in-Some.field c.in-Some.ensures.found)
    (subst (λ fs. StandThen later fs c.loop-field.reader) (sym c.in-Some.ensures.unmoved)
    c.loop-field.invariant.ahead) c.in_ok-number.ensures.found in
    rw c.by_parts.ensures
    (found_asked (g.A.Asks.is_asked c.args.asked.now) _ _ _ _ c.loop-field.invariant.passed
    (sym c.asks.ensures ∙ c.if-asks.true)
    (ap (λ fs. fields_then later fs c.loop-field.reader) (sym c.in-Some.ensures.unmoved) ∙ h.is))

pub pass_bits-requires : goal.pass_bits-requires
pass_bits-requires g c =
    let t = c.first.new.self in
    let later = left c.args.walk.now in
    (c.present_bits.ensures (ends_of.left c.loop-field.reader)
    (there_then later _ _ c.in-Some.field c.loop-field.reader
    (field_first t.turn.items t.next t.turns c.in-Some.field c.in-Some.ensures.found)
    (subst (λ fs. StandThen later fs c.loop-field.reader) (sym c.in-Some.ensures.unmoved)
    c.loop-field.invariant.ahead))).0

pub loop-field-smaller : goal.loop-field-smaller
loop-field-smaller g c =
    let t = c.first.new.self in
    let later = left c.args.walk.now in
    let p =
    first_skipped (g.A.Asks.is_asked c.args.asked.now) later _ _ c.in-Some.field
    c.loop-field.reader c.present_bits.result
    (field_first t.turn.items t.next t.turns c.in-Some.field c.in-Some.ensures.found)
    (subst (λ fs. StandThen later fs c.loop-field.reader) (sym c.in-Some.ensures.unmoved)
    c.loop-field.invariant.ahead) (sym c.asks.ensures ∙ c.if-asks.false)
    c.present_bits.ensures in
    let same =
    ap (λ fs. length (fields_then later fs c.loop-field.reader)) c.in-Some.ensures.unmoved in
    rw c.pass_bits.ensures (omega (arith, ap length p.1.2, same))

pub loop-field-preserved : goal.loop-field-preserved
loop-field-preserved g c =
    let t = c.first.new.self in
    let later = left c.args.walk.now in
    let asks = g.A.Asks.is_asked c.args.asked.now in
    let p =
    first_skipped asks later _ _ c.in-Some.field c.loop-field.reader c.present_bits.result
    (field_first t.turn.items t.next t.turns c.in-Some.field c.in-Some.ensures.found)
    (subst (λ fs. StandThen later fs c.loop-field.reader) (sym c.in-Some.ensures.unmoved)
    c.loop-field.invariant.ahead) (sym c.asks.ensures ∙ c.if-asks.false)
    c.present_bits.ensures in
    rw c.pass_bits.ensures (record {
      ahead = p.0;
      passed = one_passed asks _ _ _ c.loop-field.invariant.passed (
        p.1.0,
        p.1.1,
        ap (λ fs. fields_then later fs c.loop-field.reader) (sym c.in-Some.ensures.unmoved) ∙ p.1.2,
      );
    })
