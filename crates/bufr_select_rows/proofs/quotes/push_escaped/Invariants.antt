-- The loop of `push_escaped`: the octets that are left.
use Rattle.std.proofs.Common.{◌≡◌, ◌++◌, length}
use Rattle.csv.specs.Writing.{default_writer, escaped}
use Rattle.bufr_select_rows.proofs.quotes.push_escaped.Given as goal

-- with the octets that are left all are added
abbrev pub invariant-loop-left : goal.invariant-loop-left
invariant-loop-left l =
    l.text.items ++ escaped default_writer l.left ≡ l.fn.text.items ++ escaped default_writer l.fn.field

-- the octets that are left
abbrev pub decreases-loop-left : goal.decreases-loop-left
decreases-loop-left l = length l.left
