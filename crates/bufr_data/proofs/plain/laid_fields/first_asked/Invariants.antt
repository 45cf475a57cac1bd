use Rattle.std.proofs.Common.{length}
use Rattle.bufr_data.specs.Handed.{PassesLaid}
use Rattle.bufr_data.proofs.plain.laid_fields.first_asked.Given as goal

-- no skipped field is chosen, and `bits` counts their bits
abbrev pub invariant-loop-field : goal.invariant-loop-field
invariant-loop-field g l = PassesLaid (g.A.Asks.is_asked l.asked) l.fn.fields l.left l.fn.reader l.bits

-- each turn leaves one field fewer
abbrev pub decreases-loop-field : goal.decreases-loop-field
decreases-loop-field g l = length l.left
