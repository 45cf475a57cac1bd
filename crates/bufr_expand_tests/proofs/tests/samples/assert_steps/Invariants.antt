use Rattle.std.proofs.Common.{◌≡◌, false}
use Rattle.bufr_expand.specs.Walks.{waits}
use Rattle.bufr_expand_tests.proofs.tests.samples.assert_steps.Given as goal

-- the walk waits for no number
abbrev pub invariant-loop-next : goal.invariant-loop-next
invariant-loop-next g l = waits l.walk ≡ false
