-- The clause of `note_number`: the only cell that asks for the field notes it.
use Rattle.std.proofs.Common.{true, ◌∙◌, ap, slice_set}
use Rattle.bufr_fields.specs.Values.{as_field}
use Rattle.bufr_select_rows.specs.declared.cell.Cell.{Cell}
use Rattle.bufr_select_rows.proofs.NotedFacts.{one_noted}
use Rattle.bufr_select_rows.proofs.row_cells.note_number.Goals as goal

pub returns-in-Some : goal.returns-in-Some
returns-in-Some c =
    let cells = c.args.cells.now in
    let i = c.in-Some.index in
    let f = as_field c.by_parts-number.result in
    rw (← c.by_parts-number.ensures)
    (ap (λ (x : Cell). slice_set cells i x) c.note_number.ensures
    ∙ one_noted true f i cells c.index-cells-index.result
    (c.requires f.fxy i c.in-Some.ensures) c.if-index-cells.true)
