-- The loop of `first_unsettled`: the cells so far are settled.
use Rattle.std.proofs.Common.{length, ◌-◌}
use Rattle.bufr_select_rows.specs.Cells.{AreSettled}
use Rattle.bufr_select_rows.proofs.row_cells.first_unsettled.Given as goal

abbrev pub invariant-loop-index : goal.invariant-loop-index
invariant-loop-index l = AreSettled l.index l.cells

abbrev pub decreases-loop-index : goal.decreases-loop-index
decreases-loop-index l = length l.cells - l.index
