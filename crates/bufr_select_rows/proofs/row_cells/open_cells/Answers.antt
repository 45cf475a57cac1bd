-- The loop of `open_cells`: one cell more.
use Rattle.std.proofs.Common.{◌≡◌, ◌∙◌, ap, ◌+◌, ◌++◌, drop, map, slice_set, subst, sym, take}
use Rattle.std.proofs.lemmas.List.Edits.{map_over_more}
use Rattle.bufr_select_rows.specs.Cells.{opened}
use Rattle.bufr_select_rows.specs.declared.cell.Cell.{Cell}
use Rattle.bufr_select_rows.proofs.row_cells.open_cells.Goals as goal

pub loop-cell-preserved : goal.loop-cell-preserved
loop-cell-preserved c =
    subst
    (λ (x : Cell). slice_set c.loop-cell.cells c.loop-cell.cell-index x
    ≡ map opened (take (c.loop-cell.cell-index + 1) c.args.cells.now)
    ++ drop (c.loop-cell.cell-index + 1) c.args.cells.now)
    (sym (c.open.ensures ∙ ap opened (sym c.cell-item.is)))
    (map_over_more opened c.args.cells.now c.loop-cell.cells c.loop-cell.cell-index c.cell-item.result
    c.loop-cell-test.true c.loop-cell.invariant c.cell-item.is)
