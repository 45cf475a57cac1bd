-- The loop of `cells_of`: the cells of the columns so far.
use Rattle.std.proofs.Common.{◌≡◌, map, take}
use Rattle.bufr_select_rows.specs.Cells.{fresh}
use Rattle.bufr_select_rows.proofs.row_cells.cells_of.Given as goal

-- there is a cell for each column so far
abbrev pub invariant-loop-column : goal.invariant-loop-column
invariant-loop-column l = l.cells.items ≡ map fresh (take l.column-index l.columns)
