use Rattle.std.proofs.Common.{length}
use Rattle.bufr_data.specs.Handed.{PassesUnasked}
use Rattle.bufr_data.proofs.compressed.fields.ColumnFields.next_asked_number.Given as goal

-- no skipped field is chosen
abbrev pub invariant-loop : goal.invariant-loop
invariant-loop g l = PassesUnasked (g.A.Asks.is_asked l.asked) l.fn.self l.self

-- each turn leaves one field fewer
abbrev pub decreases-loop : goal.decreases-loop
decreases-loop g l = length l.self
