-- The loop of `write_turn_cells`: the cells that are left.
use Rattle.std.proofs.Common.{◌≡◌, ◌≤◌, ◌++◌, drop, length, map}
use Rattle.csv.specs.Writing.{default_writer, fields_text}
use Rattle.bufr_select_rows.specs.Turns.{HaveSources, sourced}
use Rattle.bufr_select_rows.proofs.turn.write_turn_cells.Given as goal

-- with the cells that are left all are written
abbrev pub invariant-loop-cell : goal.invariant-loop-cell
invariant-loop-cell l = record {
  fields : fields_text default_writer (map (sourced l.fields l.numbers) l.left) ++ drop l.start l.room
      ≡ fields_text default_writer (map (sourced l.fields l.numbers) l.fn.cells)
      ++ drop l.end l.fn.room;
  sources : HaveSources l.fields l.left l.sources_left;
  within : l.start ≤ l.end;
}

-- the cells that are left
abbrev pub decreases-loop-cell : goal.decreases-loop-cell
decreases-loop-cell l = length l.left
