-- One field more was noted.
use Rattle.std.proofs.Common.{◌∙◌, List, ap, arith, get_or, map, refl, true}
use Rattle.bufr_data.specs.Turns.{numbered}
use Rattle.bufr_fields.specs.Values.{as_field}
use Rattle.bufr_fields.specs.declared.field.NumberField.{NumberField}
use Rattle.bufr_select_rows.specs.CellLaws.{columns_noted, columns_opened}
use Rattle.bufr_select_rows.specs.Cells.{noted}
use Rattle.bufr_select_rows.specs.Turns.{after_all}
use Rattle.bufr_select_rows.specs.declared.cell.Cell.{Cell}
use Rattle.bufr_select_rows.proofs.TurnFacts.{noted_next}
use Rattle.bufr_select_rows.proofs.turn.note_turn.Goals as goal

pub loop-index-init : goal.loop-index-init
loop-index-init c =
    let a = c.args in
    record {
      cells = ap (after_all (numbered a.fields.now a.numbers.now)) c.open_cells.ensures;
      columns = ap (λ (cs : List Cell). map (λ cell. cell.column) cs) c.open_cells.ensures
          ∙ columns_opened a.cells.now;
    }

pub loop-index-preserved : goal.loop-index-preserved
loop-index-preserved c =
    let a = c.args in
    let i = c.loop-index.index in
    let cells = c.loop-index.cells in
    let inv = c.loop-index.invariant in
    record {
      cells = noted_next a.fields.now a.numbers.now i c.index-fields-index.result
          (get_or a.numbers.now i 0) cells c.note_number.new.cells c.loop-index-test.true
          (omega (arith, c.loop-index-test.true, c.requires.even)) c.index-fields-index.is refl
          (c.note_number.ensures
          ∙ ap (λ (x : NumberField). map (noted true (as_field x)) cells) c.field_with.ensures)
          ∙ inv.cells;
      columns = ap (λ (cs : List Cell). map (λ cell. cell.column) cs) c.note_number.ensures
          ∙ columns_noted true (as_field c.field_with.result) cells ∙ inv.columns;
    }
