-- The loop of `note_text_in_all`: one cell more.
use Rattle.std.proofs.Common.{◌≡◌, ◌∙◌, ap, ◌+◌, ◌++◌, drop, map, slice_set, subst, sym, take}
use Rattle.std.proofs.lemmas.List.Edits.{map_over_more}
use Rattle.bufr_select_rows.specs.TextCells.{noted_text}
use Rattle.bufr_select_rows.specs.declared.cell.Cell.{Cell}
use Rattle.bufr_select_rows.proofs.row_cells.note_text_in_all.Goals as goal

pub loop-cell-preserved : goal.loop-cell-preserved
loop-cell-preserved c =
    subst
    (λ (x : Cell). slice_set c.loop-cell.cells c.loop-cell.cell-index x
    ≡ map (noted_text c.args.fxy c.args.octets.now) (take (c.loop-cell.cell-index + 1) c.args.cells.now)
    ++ drop (c.loop-cell.cell-index + 1) c.args.cells.now)
    (sym (c.in_ok-note_text.ensures ∙ ap (noted_text c.args.fxy c.args.octets.now) (sym c.cell-item.is)))
    (map_over_more (noted_text c.args.fxy c.args.octets.now) c.args.cells.now c.loop-cell.cells c.loop-cell.cell-index c.cell-item.result
    c.loop-cell-test.true c.loop-cell.invariant c.cell-item.is)
