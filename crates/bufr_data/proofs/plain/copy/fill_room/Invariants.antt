use Rattle.bufr_data.proofs.PlainFacts.Filled.{IsFilledSoFar}
use Rattle.bufr_data.proofs.plain.copy.fill_room.Given as goal

-- the bits up to the reader's place are in the room
abbrev pub invariant-loop-left : goal.invariant-loop-left
invariant-loop-left l =
    IsFilledSoFar l.fn.octets l.fn.from l.fn.end l.at l.left l.reader l.room

-- each turn leaves fewer bits
abbrev pub decreases-loop-left : goal.decreases-loop-left
decreases-loop-left l = l.left
