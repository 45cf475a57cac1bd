use Rattle.std.proofs.Common.{take}
use Rattle.std.specs.List.{flat_map}
use Rattle.bufr_frame.proofs.PieceLaws.{HandedOut}
use Rattle.bufr_frame.proofs.pieces.frames_of_pieces.Given as goal

-- the frames found are the sure ones of the pieces before, and the framer `Stands` for these
abbrev pub invariant-loop-piece : goal.invariant-loop-piece
invariant-loop-piece l =
    HandedOut l.framer (flat_map (λ piece. piece.now) (take l.piece-index l.pieces)) l.frames.items
