-- The loop of `fill_cells`: the row of the cells and the fields left is that of all fields.
use Rattle.std.proofs.Common.{◌≡◌, None, true, map, length}
use Rattle.bufr_select_rows.specs.Cells.{AreSettled, rows_left}
use Rattle.bufr_select_rows.proofs.filling.fill_cells.Given as goal

abbrev pub invariant-fields : goal.invariant-fields
invariant-fields g l = record {
  row : rows_left None l.fn.cells true (g.P.SubsetFields.left l.fn.fields)
      ≡ rows_left None l.cells true (g.P.SubsetFields.left l.fields);
  columns : map (λ c. c.column) l.cells ≡ map (λ c. c.column) l.fn.cells;
  settled : AreSettled l.settled l.cells;
}

-- the fields that are left
abbrev pub decreases-fields : goal.decreases-fields
decreases-fields g l = length (g.P.SubsetFields.left l.fields)
