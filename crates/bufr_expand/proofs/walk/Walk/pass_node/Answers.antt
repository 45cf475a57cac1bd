-- A field keeps the invariant of the walk.
use Rattle.std.proofs.Common.{◌+◌, arith}
use Rattle.bufr_expand.proofs.LoopFacts.{going_on}
use Rattle.bufr_expand.proofs.walk.Walk.pass_node.Goals as goal

pub invariant_of-self : goal.invariant_of-self
invariant_of-self c =
    let w = c.args.self.now in
    let in_list = w.within.1 in
    going_on w w.state (w.place + 1) c.requires.goes c.requires.goes (omega arith) (omega arith)
