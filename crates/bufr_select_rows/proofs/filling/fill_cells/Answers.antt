-- Field by field, until no cell waits for a field that is left.
use Rattle.std.proofs.Common.{◌≡◌, Some, None, true, ◌∙◌, refl, sym, subst, arith}
use Rattle.bufr_fields.specs.Values.{as_field}
use Rattle.bufr_select_rows.specs.Asks.{IsSetOf, flagged}
use Rattle.bufr_select_rows.proofs.PickFacts.{picked_after}
use Rattle.bufr_select_rows.proofs.PickedFacts.{rows_last}
use Rattle.bufr_select_rows.proofs.SettledFacts.{all_settled, columns_kept, row_next, rows_settled}
use Rattle.bufr_select_rows.proofs.SettledFacts.{rows_unmoved, settled_next}
use Rattle.bufr_select_rows.proofs.filling.fill_cells.Goals as goal

-- all cells are settled
pub returns-then-settled-cells-clause-row : goal.returns-then-settled-cells-clause-row
returns-then-settled-cells-clause-row g c =
    c.fields.invariant.row
    ∙ rows_settled c.fields.cells (g.P.SubsetFields.left c.fields.fields)
    (all_settled c.first_unsettled-settled.result c.fields.cells
    (omega (arith, c.if-settled-cells.true)) c.first_unsettled-settled.ensures)

-- no cell waits for a field that is left
pub returns-then-has_no_more-clause-row : goal.returns-then-has_no_more-clause-row
returns-then-has_no_more-clause-row g c =
    c.fields.invariant.row
    ∙ rows_unmoved c.fields.cells (g.P.SubsetFields.left c.fields.fields) c.if-has_no_more.ensures

-- one number more was taken
pub fields-preserved-in-Some : goal.fields-preserved-in-Some
fields-preserved-in-Some g c =
    let a = c.args in
    let inv = c.fields.invariant in
    let field = as_field c.in-Some.number in
    let covers = subst (IsSetOf a.asked.now None) (sym inv.columns) c.requires in
    let e = c.note_number.ensures in
    record {
      row = inv.row ∙ row_next (flagged a.asked.now) c.fields.cells c.note_number.new.cells field
          (g.P.SubsetFields.left c.fields.fields) (g.P.SubsetFields.left c.pick_number.new.self) covers.0
          c.in-Some.ensures.found e;
      columns = columns_kept c.fields.cells c.note_number.new.cells field e ∙ inv.columns;
      settled = settled_next c.first_unsettled-settled.result c.fields.cells
          c.note_number.new.cells field e c.first_unsettled-settled.ensures;
    }

-- no field is left
pub returns-in-Ok-None-clause-row : goal.returns-in-Ok-None-clause-row
returns-in-Ok-None-clause-row g c =
    let a = c.args in
    let inv = c.fields.invariant in
    let so : c.in-Ok-None.field-0 ≡ None = rw c.in-Ok-None.is at c.in-Ok-None.field-0-is in
    let handed = rw (c.in-Ok-None.is, so) at (picked_after (flagged a.asked.now) c.pick-next.result
    (g.P.SubsetFields.left c.fields.fields) (g.P.SubsetFields.left c.pick_number.new.self)
    (g.P.SubsetFields.left c.pick-next.new.self) c.in_default.ensures.others c.pick-next.ensures) in
    let covers = subst (IsSetOf a.asked.now None) (sym inv.columns) c.requires in
    inv.row
    ∙ rows_last (flagged a.asked.now) None c.fields.cells true (g.P.SubsetFields.left c.fields.fields)
    (g.P.SubsetFields.left c.pick-next.new.self) covers.0 handed

-- the cells have the same columns when more numbers are noted
pub fill_numbers-requires-in-Ok-Some : goal.fill_numbers-requires-in-Ok-Some
fill_numbers-requires-in-Ok-Some g c =
    let covers = subst (IsSetOf c.args.asked.now None)
    (sym (columns_kept c.fields.cells c.note_field.new.cells c.in-Ok-Some.field
    c.in_ok-note_field-in-Ok-Some.ensures ∙ c.fields.invariant.columns)) c.requires in
    λ k. ((refl, tt), covers)

-- one field more was taken, and the numbers after it
pub fields-preserved-in_ok-due-in-Ok-Some : goal.fields-preserved-in_ok-due-in-Ok-Some
fields-preserved-in_ok-due-in-Ok-Some g c =
    let a = c.args in
    let inv = c.fields.invariant in
    let field = c.in-Ok-Some.field in
    let so : c.in-Ok-Some.field-0 ≡ Some field = rw c.in-Ok-Some.is at c.in-Ok-Some.field-0-is in
    let handed = rw (c.in-Ok-Some.is, so) at (picked_after (flagged a.asked.now) c.pick-next.result
    (g.P.SubsetFields.left c.fields.fields) (g.P.SubsetFields.left c.pick_number.new.self)
    (g.P.SubsetFields.left c.pick-next.new.self) c.in_default.ensures.others c.pick-next.ensures) in
    let covers = subst (IsSetOf a.asked.now None) (sym inv.columns) c.requires in
    let e = c.in_ok-note_field-in-Ok-Some.ensures in
    let more = c.in_ok-due-in-Ok-Some.ensures in
    record {
      row = inv.row ∙ row_next (flagged a.asked.now) c.fields.cells c.note_field.new.cells field
          (g.P.SubsetFields.left c.fields.fields) (g.P.SubsetFields.left c.pick-next.new.self) covers.0 handed e
          ∙ more.row;
      columns = more.columns ∙ columns_kept c.fields.cells c.note_field.new.cells field e ∙ inv.columns;
      settled = more.settled c.first_unsettled-settled.result
          (settled_next c.first_unsettled-settled.result c.fields.cells c.note_field.new.cells
          field e c.first_unsettled-settled.ensures);
    }

pub fields-preserved-in_ok-due-in-Ok-Some-2 : goal.fields-preserved-in_ok-due-in-Ok-Some-2
fields-preserved-in_ok-due-in-Ok-Some-2 g c =
    let a = c.args in
    let inv = c.fields.invariant in
    let field = c.in-Ok-Some.field in
    let so : c.in-Ok-Some.field-0 ≡ Some field = rw c.in-Ok-Some.is at c.in-Ok-Some.field-0-is in
    let handed = rw (c.in-Ok-Some.is, so) at (picked_after (flagged a.asked.now) c.pick-next.result
    (g.P.SubsetFields.left c.fields.fields) (g.P.SubsetFields.left c.pick_number.new.self)
    (g.P.SubsetFields.left c.pick-next.new.self) c.in_default.ensures.others c.pick-next.ensures) in
    let covers = subst (IsSetOf a.asked.now None) (sym inv.columns) c.requires in
    let e = c.in_ok-note_field-in-Ok-Some.ensures in
    let more = c.in_ok-due-in-Ok-Some.ensures in
    record {
      row = inv.row ∙ row_next (flagged a.asked.now) c.fields.cells c.note_field.new.cells field
          (g.P.SubsetFields.left c.fields.fields) (g.P.SubsetFields.left c.pick-next.new.self) covers.0 handed e
          ∙ more.row;
      columns = more.columns ∙ columns_kept c.fields.cells c.note_field.new.cells field e ∙ inv.columns;
      settled = more.settled c.first_unsettled-settled.result
          (settled_next c.first_unsettled-settled.result c.fields.cells c.note_field.new.cells
          field e c.first_unsettled-settled.ensures);
    }
