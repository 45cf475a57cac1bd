use Rattle.std.proofs.Common.{◌≡◌, length}
use Rattle.bufr_report_keys.specs.Usable.{without_last_blanks}
use Rattle.bufr_report_keys.proofs.usable.without_last_blanks.Given as goal

-- the rest and the text are equal without their last blanks
abbrev pub invariant-loop-last : goal.invariant-loop-last
invariant-loop-last l = without_last_blanks l.rest ≡ without_last_blanks l.fn.text

-- the octets of the rest
abbrev pub decreases-loop-last : goal.decreases-loop-last
decreases-loop-last l = length l.rest
