-- The loop of `put_fields`: the rows of the fields so far.
use Rattle.std.proofs.Common.{◌≡◌, map, length}
use Rattle.bufr_select_rows.specs.Cells.{opens_at_once, rows_left}
use Rattle.bufr_io.specs.HeldLaws.{PutsSome}
use Rattle.bufr_select_rows.proofs.picker.put_fields.Given as goal

-- with the rows of the fields that are left all are put, and the cells keep their columns
abbrev pub invariant-fields : goal.invariant-fields
invariant-fields g l = record {
  rows : PutsSome (rows_left l.each l.fn.cells (opens_at_once l.each) (g.P.SubsetFields.left l.fn.fields))
      (rows_left l.each l.cells l.in_span (g.P.SubsetFields.left l.fields)) l.fn.rows (g.W.Sink.writing l.fn.writer) l.rows
      (g.W.Sink.writing l.writer);
  columns : map (λ c. c.column) l.cells ≡ map (λ c. c.column) l.fn.cells;
}

-- the fields that are left
abbrev pub decreases-fields : goal.decreases-fields
decreases-fields g l = length (g.P.SubsetFields.left l.fields)
