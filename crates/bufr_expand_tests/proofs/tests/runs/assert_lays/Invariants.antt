use Rattle.std.proofs.Common.{◌≡◌, false}
use Rattle.bufr_expand.specs.Walks.{waits}
use Rattle.bufr_expand_tests.proofs.tests.runs.assert_lays.Given as goal

-- the walk waits for no number
abbrev pub invariant-loop : goal.invariant-loop
invariant-loop g l = waits l.walk ≡ false
