use Rattle.std.proofs.Common.{◌≡◌, false}
use Rattle.bufr_expand.specs.Walks.{left, waits, steps_left}
use Rattle.bufr_expand.proofs.walk.Walk.next.Given as goal

-- what was passed left the course unchanged, and the walk waits for no number
abbrev pub invariant-loop-self : goal.invariant-loop-self
invariant-loop-self l = (left l.self ≡ left l.fn.self) × (waits l.self ≡ false)

-- the number of nodes, turns and ends of replications left to pass
abbrev pub decreases-loop-self : goal.decreases-loop-self
decreases-loop-self l = steps_left l.self
