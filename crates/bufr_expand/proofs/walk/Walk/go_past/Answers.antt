-- The walk goes on after the elements of the run.
use Rattle.std.proofs.Common.{◌+◌, refl, arith}
use Rattle.bufr_expand.proofs.LoopFacts.{going_on}
use Rattle.bufr_expand.proofs.RunFacts.{elements_passed}
use Rattle.bufr_expand.proofs.walk.Walk.go_past.Goals as goal

pub invariant_of-self : goal.invariant_of-self
invariant_of-self c =
    let w = c.args.self.now in
    let in_list = w.within.1 in
    let r = c.requires in
    going_on w w.state (w.place + c.args.run.items) r.goes r.goes (omega arith)
    (omega (arith, in_list, r.within))

pub returns : goal.returns
returns c =
    let r = c.requires in
    elements_passed c.args.self.now _ c.args.run r.goes r.goes refl refl refl refl refl refl r.room
    r.some r.begins
