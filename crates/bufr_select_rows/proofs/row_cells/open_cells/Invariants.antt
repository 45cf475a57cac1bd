-- The loop of `open_cells`: the cells so far have opened a span.
use Rattle.std.proofs.Common.{◌≡◌, ◌++◌, map, take, drop}
use Rattle.bufr_select_rows.specs.Cells.{opened}
use Rattle.bufr_select_rows.proofs.row_cells.open_cells.Given as goal

-- the cells so far have opened a span, and the others are as they were
abbrev pub invariant-loop-cell : goal.invariant-loop-cell
invariant-loop-cell l =
    l.cells
    ≡ map opened (take l.cell-index l.initial.cells) ++ drop l.cell-index l.initial.cells
