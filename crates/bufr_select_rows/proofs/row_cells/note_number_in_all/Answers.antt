-- The loop of `note_number_in_all`: one cell more.
use Rattle.std.proofs.Common.{◌≡◌, true, ◌∙◌, ap, ◌+◌, ◌++◌, drop, map, slice_set, subst, sym, take}
use Rattle.std.proofs.lemmas.List.Edits.{map_over_more}
use Rattle.bufr_fields.specs.Values.{as_field}
use Rattle.bufr_select_rows.specs.Cells.{noted}
use Rattle.bufr_select_rows.specs.declared.cell.Cell.{Cell}
use Rattle.bufr_select_rows.proofs.row_cells.note_number_in_all.Goals as goal

pub loop-cell-preserved : goal.loop-cell-preserved
loop-cell-preserved c =
    subst
    (λ (x : Cell). slice_set c.loop-cell.cells c.loop-cell.cell-index x
    ≡ map (noted true (as_field c.args.number.now)) (take (c.loop-cell.cell-index + 1) c.args.cells.now)
    ++ drop (c.loop-cell.cell-index + 1) c.args.cells.now)
    (sym (c.note_number.ensures ∙ ap (noted true (as_field c.args.number.now)) (sym c.cell-item.is)))
    (map_over_more (noted true (as_field c.args.number.now)) c.args.cells.now c.loop-cell.cells c.loop-cell.cell-index c.cell-item.result
    c.loop-cell-test.true c.loop-cell.invariant c.cell-item.is)
