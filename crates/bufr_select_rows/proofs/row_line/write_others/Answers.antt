-- The clauses of `write_others`: one cell more.
use Rattle.std.proofs.Common.{◌∙◌, arith, refl}
use Rattle.bufr_select_rows.specs.Cells.{shown}
use Rattle.bufr_select_rows.proofs.RowFacts.{field_before}
use Rattle.bufr_select_rows.proofs.row_line.write_others.Goals as goal

pub loop-cell-preserved : goal.loop-cell-preserved
loop-cell-preserved c =
    let inv = c.loop-cell.invariant in
    let e = c.in_ok-field.ensures in
    record {
      fields = field_before shown c.loop-cell.left.now c.in-Some.others.now c.in-Some.cell.now
          c.shown.result.now c.loop-cell.room c.write_to.new.room _ c.loop-cell.start
          c.in_ok-field.field c.in-Some.ensures.cases.0 c.shown.ensures
          (omega (arith, c.if-field-eq0.false))
          (omega (arith, e.within, inv.within, c.requires, c.loop-cell.auto.room, c.write_to.auto.room))
          e.written refl ∙ inv.fields;
      within = omega (arith, e.within, inv.within);
    }
