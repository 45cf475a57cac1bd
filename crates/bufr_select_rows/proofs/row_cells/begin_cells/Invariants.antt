-- The loop of `begin_cells`: the cells so far have begun.
use Rattle.std.proofs.Common.{◌≡◌, ◌++◌, map, take, drop}
use Rattle.bufr_select_rows.specs.Cells.{begun}
use Rattle.bufr_select_rows.specs.Rows.{origin}
use Rattle.bufr_select_rows.proofs.row_cells.begin_cells.Given as goal

-- the cells so far have begun, and the others are as they were
abbrev pub invariant-loop-cell : goal.invariant-loop-cell
invariant-loop-cell l =
    l.cells
    ≡ map (λ cell. begun (origin l.from) cell.column) (take l.cell-index l.initial.cells)
    ++ drop l.cell-index l.initial.cells
