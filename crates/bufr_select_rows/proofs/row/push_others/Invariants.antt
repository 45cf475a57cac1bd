-- The loop of `push_others`: the cells that are left.
use Rattle.std.proofs.Common.{◌≡◌, ◌++◌, length, map}
use Rattle.csv.specs.Writing.{default_writer, fields_text}
use Rattle.bufr_select_rows.specs.Cells.{shown}
use Rattle.bufr_select_rows.proofs.row.push_others.Given as goal

-- with the cells that are left all are added
abbrev pub invariant-loop-left : goal.invariant-loop-left
invariant-loop-left l =
    l.text.items ++ fields_text default_writer (map shown l.left)
    ≡ l.fn.text.items ++ fields_text default_writer (map shown l.fn.cells)

-- the cells that are left
abbrev pub decreases-loop-left : goal.decreases-loop-left
decreases-loop-left l = length l.left
