use Rattle.std.proofs.Common.{length}
use Rattle.bufr_expand.specs.Walks.{left}
use Rattle.bufr_data.specs.Handed.{PassesUnasked, StandThen, fields_then}
use Rattle.bufr_data.specs.Plain.LaidTurns.{fields_left}
use Rattle.bufr_data.proofs.plain.laid_turns.LaidTurns.next_asked_number.Given as goal

-- no skipped field is chosen
abbrev pub invariant-loop-field : goal.invariant-loop-field
invariant-loop-field g l = record {
  ahead : StandThen (left l.walk) (fields_left l.self) l.reader;
  passed : PassesUnasked (g.A.Asks.is_asked l.asked)
      (fields_then (left l.walk) (fields_left l.fn.self) l.fn.reader)
      (fields_then (left l.walk) (fields_left l.self) l.reader);
}

-- each turn leaves one field fewer
abbrev pub decreases-loop-field : goal.decreases-loop-field
decreases-loop-field g l = length (fields_then (left l.walk) (fields_left l.self) l.reader)
