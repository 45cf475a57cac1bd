-- The loop of `put_each_turn`: the rows of the turns so far.
use Rattle.std.proofs.Common.{◌≡◌, ℕ, false, length, map}
use Rattle.bufr_data.specs.Turns.{OpensTurns}
use Rattle.bufr_io.specs.HeldLaws.{PutsSome}
use Rattle.bufr_select_rows.specs.Cells.{opened}
use Rattle.bufr_select_rows.specs.Turns.{turns_rows}
use Rattle.bufr_select_rows.proofs.picker.put_each_turn.Given as goal

-- with the rows of the turns that are left all are put, and the cells open as before
abbrev pub invariant-turns : goal.invariant-turns
invariant-turns g l = record {
  rows : (d : ℕ) → OpensTurns d l.fn.turns.fields
      → PutsSome (turns_rows d l.fn.cells l.fn.turns) (turns_rows d l.cells l.turns) l.fn.rows
      (g.W.Sink.writing l.fn.writer) l.rows (g.W.Sink.writing l.writer);
  works : (g.W.Sink.writing l.writer).failed ≡ false;
  opened : map opened l.cells ≡ map opened l.fn.cells;
  fields : l.turns.fields ≡ l.fn.turns.fields;
  even : length l.numbers ≡ length l.fn.turns.fields;
}

-- the turns that are left
abbrev pub decreases-turns : goal.decreases-turns
decreases-turns g l = length l.turns.turns
