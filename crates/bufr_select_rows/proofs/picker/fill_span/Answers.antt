-- Number by number, until one opens another span or none comes next.
use Rattle.std.proofs.Common.{Some, ◌∙◌, refl, sym, subst, arith}
use Rattle.bufr_fields.specs.Values.{as_field}
use Rattle.bufr_select_rows.specs.Asks.{IsSetOf, flagged}
use Rattle.bufr_select_rows.proofs.PickedFacts.{span_next}
use Rattle.bufr_select_rows.proofs.SettledFacts.{columns_kept, hands_fewer}
use Rattle.bufr_select_rows.proofs.picker.fill_span.Goals as goal

-- at first no number was taken
pub numbers-init : goal.numbers-init
numbers-init g c = (refl, refl, omega (arith))

-- one number more was taken
pub numbers-preserved : goal.numbers-preserved
numbers-preserved g c =
    let a = c.args in
    let inv = c.numbers.invariant in
    let field = as_field c.in-Some.number in
    let old = g.P.SubsetFields.left c.numbers.fields in
    let new = g.P.SubsetFields.left c.pick_number.new.self in
    let hands = c.in-Some.ensures.found in
    let covers = subst (IsSetOf a.asked.now (Some a.opener)) (sym inv.1) c.requires in
    let e = c.note_number.ensures in (
      inv.0 ∙ span_next (flagged a.asked.now) (Some a.opener) c.numbers.cells c.note_number.new.cells field
          old new covers.0 hands (sym c.eq.ensures ∙ c.if-eq.false) e,
      columns_kept c.numbers.cells c.note_number.new.cells field e ∙ inv.1,
      omega (arith, inv.2, hands_fewer (flagged a.asked.now) field old new hands),
    )

-- a number opens another span
pub returns-then-eq-clause-found : goal.returns-then-eq-clause-found
returns-then-eq-clause-found g c =
    (g.P.SubsetFields.left c.numbers.fields, c.numbers.invariant, c.in-Some.ensures.found)
