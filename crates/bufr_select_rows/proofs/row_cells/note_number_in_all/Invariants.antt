-- The loop of `note_number_in_all`: the cells so far have noted the field.
use Rattle.std.proofs.Common.{◌≡◌, true, ◌++◌, map, take, drop}
use Rattle.bufr_fields.specs.Values.{as_field}
use Rattle.bufr_select_rows.specs.Cells.{noted}
use Rattle.bufr_select_rows.proofs.row_cells.note_number_in_all.Given as goal

-- the cells so far have noted the field, and the others are as they were
abbrev pub invariant-loop-cell : goal.invariant-loop-cell
invariant-loop-cell l =
    l.cells
    ≡ map (noted true (as_field l.number)) (take l.cell-index l.initial.cells)
    ++ drop l.cell-index l.initial.cells
