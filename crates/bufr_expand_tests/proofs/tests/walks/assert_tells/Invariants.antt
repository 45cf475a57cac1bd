use Rattle.std.proofs.Common.{◌≡◌, false}
use Rattle.bufr_expand.specs.Walks.{waits}
use Rattle.bufr_expand_tests.proofs.tests.walks.assert_tells.Given as goal

-- the walk waits for no number
abbrev pub invariant-loop-told : goal.invariant-loop-told
invariant-loop-told g l = waits l.walk ≡ false
