use Rattle.std.proofs.Common.{length}
use Rattle.bufr_data.specs.Handed.{PassesUnasked}
use Rattle.bufr_select_rows.specs.Asks.{flagged}
use Rattle.bufr_select_rows.proofs.subset_fields.ChosenFieldsSubsetFields.pick.Given as goal

-- no skipped field is asked for
abbrev pub invariant-loop-field : goal.invariant-loop-field
invariant-loop-field l = PassesUnasked (flagged l.asked) l.fn.self l.self

-- each turn leaves one field fewer
abbrev pub decreases-loop-field : goal.decreases-loop-field
decreases-loop-field l = length l.self
