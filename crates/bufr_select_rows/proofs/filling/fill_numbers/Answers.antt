-- Number by number, until none comes next.
use Rattle.std.proofs.Common.{None, true, ◌∙◌, ap, sym, subst, arith, length}
use Rattle.bufr_fields.specs.Values.{as_field}
use Rattle.bufr_select_rows.specs.Asks.{IsSetOf, flagged}
use Rattle.bufr_select_rows.proofs.SettledFacts.{columns_kept, hands_fewer, passes_fewer, row_next, row_passed}
use Rattle.bufr_select_rows.specs.Cells.{rows_left}
use Rattle.bufr_select_rows.proofs.SettledFacts.{settled_next}
use Rattle.bufr_select_rows.proofs.ShortFacts.{row_first}
use Rattle.bufr_select_rows.proofs.filling.fill_numbers.Goals as goal

-- one short number more was taken
pub due-preserved-in-Some : goal.due-preserved-in-Some
due-preserved-in-Some g c =
    let inv = c.due.invariant in
    let found = c.in-Some.ensures.found in
    let field = as_field found.0 in
    let e = c.note_short.ensures found.0 found.1 in
    record {
      row = inv.row ∙ row_first c.due.cells c.note_short.new.cells field
          (g.P.SubsetFields.left c.due.fields) (g.P.SubsetFields.left c.pick_short.new.self) found.2 e;
      columns = columns_kept c.due.cells c.note_short.new.cells field e ∙ inv.columns;
      settled = λ n settled. settled_next n c.due.cells c.note_short.new.cells field e
          (inv.settled n settled);
      fewer = omega (arith, inv.fewer, ap length found.2);
    }

-- one number more was taken
pub due-preserved-in-Some-pick_number : goal.due-preserved-in-Some-pick_number
due-preserved-in-Some-pick_number g c =
    let a = c.args in
    let inv = c.due.invariant in
    let field = as_field c.in-Some-pick_number.number in
    let covers = subst (IsSetOf a.asked.now None) (sym inv.columns) c.requires in
    let same = c.in_default.ensures.others in
    let e = c.note_number.ensures in
    record {
      row = inv.row ∙ ap (rows_left None c.due.cells true) (sym same)
          ∙ row_next (flagged a.asked.now) c.due.cells c.note_number.new.cells field
          (g.P.SubsetFields.left c.pick_short.new.self) (g.P.SubsetFields.left c.pick_number.new.self) covers.0
          c.in-Some-pick_number.ensures.found e;
      columns = columns_kept c.due.cells c.note_number.new.cells field e ∙ inv.columns;
      settled = λ n settled. settled_next n c.due.cells c.note_number.new.cells field e
          (inv.settled n settled);
      fewer = omega (
        arith,
        inv.fewer,
        ap length same,
        hands_fewer (flagged a.asked.now) field
            (g.P.SubsetFields.left c.pick_short.new.self) (g.P.SubsetFields.left c.pick_number.new.self)
            c.in-Some-pick_number.ensures.found,
      );
    }

-- a text was taken
pub due-preserved : goal.due-preserved
due-preserved g c =
    let a = c.args in
    let inv = c.due.invariant in
    let covers = subst (IsSetOf a.asked.now None) (sym inv.columns) c.requires in
    let text = c.in_ok-fill_text-in-None.ensures in
    record {
      row = inv.row ∙ ap (rows_left None c.due.cells true) (sym c.in_default.ensures.others)
          ∙ row_passed (flagged a.asked.now) c.due.cells (g.P.SubsetFields.left c.pick_short.new.self)
          (g.P.SubsetFields.left c.pick_number.new.self) covers.0 c.in-None.ensures.others ∙ text.row;
      columns = text.columns ∙ inv.columns;
      settled = λ n settled. text.settled n (inv.settled n settled);
      fewer = omega (
        arith,
        inv.fewer,
        ap length c.in_default.ensures.others,
        passes_fewer (flagged a.asked.now) (g.P.SubsetFields.left c.pick_short.new.self)
            (g.P.SubsetFields.left c.pick_number.new.self) c.in-None.ensures.others,
        text.fewer,
      );
    }

-- none comes next
pub returns-then-not-branch-clause-row : goal.returns-then-not-branch-clause-row
returns-then-not-branch-clause-row g c =
    let a = c.args in
    let inv = c.due.invariant in
    let covers = subst (IsSetOf a.asked.now None) (sym inv.columns) c.requires in
    inv.row ∙ ap (rows_left None c.due.cells true) (sym c.in_default.ensures.others)
    ∙ row_passed (flagged a.asked.now) c.due.cells (g.P.SubsetFields.left c.pick_short.new.self)
    (g.P.SubsetFields.left c.pick_number.new.self) covers.0 c.in-None.ensures.others
    ∙ c.in_ok-fill_text-in-None.ensures.row
