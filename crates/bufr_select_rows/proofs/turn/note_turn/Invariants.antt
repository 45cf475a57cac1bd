-- The loop of `note_turn`: the fields that are left.
use Rattle.std.proofs.Common.{◌≡◌, drop, map}
use Rattle.bufr_data.specs.Turns.{numbered}
use Rattle.bufr_select_rows.specs.Turns.{after_all, after_turn}
use Rattle.bufr_select_rows.proofs.turn.note_turn.Given as goal

-- after the fields that are left the cells are those after the turn
abbrev pub invariant-loop-index : goal.invariant-loop-index
invariant-loop-index l = record {
  cells : after_all (numbered (drop l.index l.fields) (drop l.index l.numbers)) l.cells
      ≡ after_turn l.fields l.numbers l.fn.cells;
  columns : map (λ c. c.column) l.cells ≡ map (λ c. c.column) l.fn.cells;
}
