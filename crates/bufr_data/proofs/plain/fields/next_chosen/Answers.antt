-- A field that is not chosen is one more of those skipped.
use Rattle.std.proofs.Common.{length, refl, sym, ap, subst, ◌∙◌, arith}
use Rattle.bufr_bits.specs.Ends.{left}
use Rattle.bufr_fields.specs.StepLaws.{asks_field, field_goes, field_goes_on}
use Rattle.bufr_fields.specs.Values.{as_field}
use Rattle.bufr_data.specs.Handed.{PassesUnasked, fields_ahead}
use Rattle.bufr_data.specs.declared.plain.fields.Due.TheVariants.{Step}
use Rattle.bufr_data.proofs.AskedFacts.{found_asked, one_passed}
use Rattle.bufr_data.proofs.PlainFacts.Handed.{asked_there, field_passed, one_handed, text_next}
use Rattle.bufr_data.proofs.PlainFacts.Handed.{value_there}
use Rattle.bufr_data.proofs.PlainFacts.Reads.{step_is_read}
use Rattle.bufr_data.proofs.plain.fields.next_chosen.Goals as goal

pub pass_element-requires : goal.pass_element-requires
pass_element-requires g c = c.elements.invariant.ahead.0.answered

pub pass_bits-requires : goal.pass_bits-requires
pass_bits-requires g c =
    (c.present_bits.ensures (left c.elements.reader)
    (value_there _ _ _ _ _ c.elements.invariant.ahead c.in-Some.ensures.passed)).0

pub read_number-requires : goal.read_number-requires
read_number-requires g c =
    let a = asks_field _ _ _ _ c.in-Some.ensures.passed in
    asked_there _ a.met _ _ a.more _ a.is c.elements.invariant.ahead.1

pub elements-preserved-else-at_turns : goal.elements-preserved-else-at_turns
elements-preserved-else-at_turns g c =
    let inv = c.elements.invariant in
    let steps = c.in-Ok.ensures.found in
    record {
      ahead = steps.ahead;
      passed = one_passed (g.A.Asks.is_asked c.args.asked.now) _ _ _ inv.passed (
        as_field c.in-Ok.number,
        sym c.asks.ensures ∙ c.if-asks.false,
        ap (λ walk. fields_ahead Step walk c.elements.reader) (sym c.in-None.ensures.unmoved)
            ∙ steps.is,
      );
    }

pub returns-then-at_turns-clause-others : goal.returns-then-at_turns-clause-others
returns-then-at_turns-clause-others g c =
    let steps = c.in-Ok.ensures.found in
    one_passed (g.A.Asks.is_asked c.args.asked.now) _ _ _ c.elements.invariant.passed (
      as_field c.in-Ok.number,
      sym c.asks.ensures ∙ c.if-asks.false,
      ap (λ walk. fields_ahead Step walk c.elements.reader) (sym c.in-None.ensures.unmoved)
          ∙ steps.is,
    )

pub returns-in-Some-read_number-clause-ahead : goal.returns-in-Some-read_number-clause-ahead
returns-in-Some-read_number-clause-ahead g c =
    let stands = c.elements.invariant.ahead in
    let goes = c.in-Some.ensures.passed in
    (one_handed Step _ _ _ _ _ refl stands
    (step_is_read _ _ _ _ _ _ _ _ (field_goes _ _ _ _ _ stands.0 goes)
    c.in-Some-read_number.ensures.found)
    (field_goes_on _ _ _ _ stands.0 goes)).ahead

pub returns-in-Some-read_number-clause-found : goal.returns-in-Some-read_number-clause-found
returns-in-Some-read_number-clause-found g c =
    let stands = c.elements.invariant.ahead in
    let goes = c.in-Some.ensures.passed in
    found_asked (g.A.Asks.is_asked c.args.asked.now) _ _ _ _ c.elements.invariant.passed
    (sym c.asks-in-Some.ensures ∙ c.if-asks-2.true)
    (one_handed Step _ _ _ _ _ refl stands
    (step_is_read _ _ _ _ _ _ _ _ (field_goes _ _ _ _ _ stands.0 goes)
    c.in-Some-read_number.ensures.found)
    (field_goes_on _ _ _ _ stands.0 goes)).is

pub returns-in-None-read_number-clause-later : goal.returns-in-None-read_number-clause-later
returns-in-None-read_number-clause-later g c =
    (text_next Step _ _ _ _ _ _ refl c.elements.invariant.ahead c.in-Some.ensures.passed
    c.in-None-read_number.ensures.unmoved).ahead

pub returns-in-None-read_number-clause-others : goal.returns-in-None-read_number-clause-others
returns-in-None-read_number-clause-others g c =
    subst (PassesUnasked (g.A.Asks.is_asked c.args.asked.now) _)
    (sym (text_next Step _ _ _ _ _ _ refl c.elements.invariant.ahead c.in-Some.ensures.passed
    c.in-None-read_number.ensures.unmoved).same) c.elements.invariant.passed

pub elements-smaller : goal.elements-smaller
elements-smaller g c =
    let p =
    field_passed (g.A.Asks.is_asked c.args.asked.now) _ _ _ _ _ _ c.elements.invariant.ahead
    c.in-Some.ensures.passed (sym c.asks-in-Some.ensures ∙ c.if-asks-2.false)
    c.present_bits.ensures in
    rw c.pass_bits.ensures (omega (arith, ap length p.1.2))

pub elements-preserved : goal.elements-preserved
elements-preserved g c =
    let inv = c.elements.invariant in
    let asks = g.A.Asks.is_asked c.args.asked.now in
    let p =
    field_passed asks _ _ _ _ _ _ inv.ahead c.in-Some.ensures.passed
    (sym c.asks-in-Some.ensures ∙ c.if-asks-2.false) c.present_bits.ensures in
    rw c.pass_bits.ensures
    (record { ahead = p.0; passed = one_passed asks _ _ _ inv.passed p.1 })
