use Rattle.std.proofs.Common.{◌≡◌, true, take}
use Rattle.bufr_data.specs.Plain.LaidTurns.{none_among}
use Rattle.bufr_data.proofs.plain.number_turns.index_of.Given as goal

-- no field before the index is chosen
abbrev pub invariant-loop-index : goal.invariant-loop-index
invariant-loop-index g l =
    none_among (g.A.Asks.is_asked l.asked) (take l.index l.turn) ≡ true
