use Rattle.std.proofs.Common.{◌≡◌, false}
use Rattle.bufr_expand.specs.Walks.{waits}
use Rattle.bufr_expand_tests.proofs.tests.walks.assert_passes_elements.Given as goal

-- the walk waits for no number
abbrev pub invariant-loop-width : goal.invariant-loop-width
invariant-loop-width g l = waits l.walk ≡ false
