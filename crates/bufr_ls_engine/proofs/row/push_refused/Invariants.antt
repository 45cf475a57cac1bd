-- The loop of `push_refused`: the columns that are left.
use Rattle.std.proofs.Common.{◌≡◌, ◌++◌, length, take, Err}
use Rattle.bufr_io.specs.Taking.{frame_at}
use Rattle.bufr_ls_engine.specs.Rows.{field_as}
use Rattle.bufr_ls_engine.proofs.LineFacts.{line}
use Rattle.bufr_ls_engine.proofs.row.push_refused.Given as goal

-- with the columns that are left the line is whole, and the text grew
abbrev pub invariant-loop-rest : goal.invariant-loop-rest
invariant-loop-rest l =
    (
    l.text.items
    ++ line
    (λ column. field_as column l.frame.input l.frame.message
    (frame_at l.frame.place l.frame.octets.now) (Err l.why))
    l.column l.rest
    ≡ l.fn.text.items
    ++ line
    (λ column. field_as column l.frame.input l.frame.message
    (frame_at l.frame.place l.frame.octets.now) (Err l.why))
    l.fn.first l.fn.others
    )
    × (take (length l.fn.text.items) l.text.items ≡ l.fn.text.items)

-- the columns that are left
abbrev pub decreases-loop-rest : goal.decreases-loop-rest
decreases-loop-rest l = length l.rest
