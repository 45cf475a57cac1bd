-- The loop of `fill_numbers`: the row of the cells and the fields left is that of all fields.
use Rattle.std.proofs.Common.{◌≡◌, ◌≤◌, ℕ, None, true, length, map}
use Rattle.bufr_select_rows.specs.Cells.{AreSettled, rows_left}
use Rattle.bufr_select_rows.proofs.filling.fill_numbers.Given as goal

abbrev pub invariant-due : goal.invariant-due
invariant-due g l = record {
  row : rows_left None l.fn.cells true (g.P.SubsetFields.left l.fn.fields)
      ≡ rows_left None l.cells true (g.P.SubsetFields.left l.fields);
  columns : map (λ c. c.column) l.cells ≡ map (λ c. c.column) l.fn.cells;
  settled : (n : ℕ) → AreSettled n l.fn.cells → AreSettled n l.cells;
  fewer : length (g.P.SubsetFields.left l.fields) ≤ length (g.P.SubsetFields.left l.fn.fields);
}

abbrev pub decreases-due : goal.decreases-due
decreases-due g l = l.due
