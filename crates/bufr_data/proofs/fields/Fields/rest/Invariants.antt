use Rattle.std.proofs.Common.{◌≡◌, ◌++◌, length}
use Rattle.bufr_data.proofs.fields.Fields.rest.Given as goal

-- the fields collected and those left are all fields
abbrev pub invariant-loop-fields : goal.invariant-loop-fields
invariant-loop-fields l = l.fn.self ≡ l.fields.items ++ l.self

-- each turn leaves one field fewer
abbrev pub decreases-loop-fields : goal.decreases-loop-fields
decreases-loop-fields l = length l.self
