use Rattle.std.proofs.Common.{◌≡◌, true, take}
use Rattle.bufr_expand.proofs.AskedFacts.{are_clear}
use Rattle.bufr_expand.proofs.walk.Walk.has_no_more_inside.Given as goal

-- no open replication so far has a chosen field
abbrev pub invariant-loop-open : goal.invariant-loop-open
invariant-loop-open g l =
    are_clear (g.A.Asks.is_asked l.asked) l.self.nodes.now (take l.open-index l.self.loops.items) ≡ true
