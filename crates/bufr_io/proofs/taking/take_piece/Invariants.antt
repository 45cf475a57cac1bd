use Rattle.std.proofs.Common.{ℕ, ◌+◌, ◌-◌, ◌++◌, List, length}
use Rattle.bufr_io.specs.Taking.{HasSure}
use Rattle.bufr_io.proofs.TakingFacts.{Amid}
use Rattle.bufr_io.proofs.taking.take_piece.Given as goal

-- for each stream before the piece: the framer has taken in all but the rest, and the taker the
-- frames handed out
abbrev pub invariant-loop-found : goal.invariant-loop-found
invariant-loop-found g l =
    (first : g.row.T.Denot) (begin : g.row.O.Denot) (stream : List ℕ)
    → HasSure (g.T.TakesFrames.HasTaken first begin l.fn.taker l.fn.out) l.fn.framer stream
    → Amid (g.T.TakesFrames.HasTaken first begin l.taker l.out) l.framer (stream ++ l.piece) l.rest

abbrev pub decreases-loop-found : goal.decreases-loop-found
decreases-loop-found g l =
    g.T.TakesFrames.count l.fn.taker l.fn.out + l.fn.framer.fed + length l.piece
    - g.T.TakesFrames.count l.taker l.out
