use Rattle.std.proofs.Common.{length}
use Rattle.bufr_data.specs.Handed.{PassesUnasked}
use Rattle.bufr_data.proofs.plain.fields.PlainFields.next_asked.Given as goal

-- no skipped field is chosen
abbrev pub invariant-loop-field : goal.invariant-loop-field
invariant-loop-field g l = PassesUnasked (g.A.Asks.is_asked l.asked) l.fn.self l.self

-- each turn leaves one field fewer
abbrev pub decreases-loop-field : goal.decreases-loop-field
decreases-loop-field g l = length l.self
