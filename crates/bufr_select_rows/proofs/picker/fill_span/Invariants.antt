-- The loop of `fill_span`: the numbers so far were noted.
use Rattle.std.proofs.Common.{Some, true, length}
use Rattle.bufr_select_rows.specs.Cells.{NotesUpTo}
use Rattle.bufr_select_rows.proofs.picker.fill_span.Given as goal

abbrev pub invariant-numbers : goal.invariant-numbers
invariant-numbers g l = NotesUpTo (Some l.opener) true l.fn.cells (g.P.SubsetFields.left l.fn.fields)
    l.cells (g.P.SubsetFields.left l.fields)

-- the fields that are left
abbrev pub decreases-numbers : goal.decreases-numbers
decreases-numbers g l = length (g.P.SubsetFields.left l.fields)
