-- The loop of `note_text_in_all`: the cells so far have noted the field.
use Rattle.std.proofs.Common.{◌≡◌, ◌++◌, map, take, drop}
use Rattle.bufr_select_rows.specs.TextCells.{noted_text}
use Rattle.bufr_select_rows.proofs.row_cells.note_text_in_all.Given as goal

-- the cells so far have noted the field, and the others are as they were
abbrev pub invariant-loop-cell : goal.invariant-loop-cell
invariant-loop-cell l =
    l.cells
    ≡ map (noted_text l.fn.fxy l.fn.octets) (take l.cell-index l.initial.cells)
    ++ drop l.cell-index l.initial.cells
