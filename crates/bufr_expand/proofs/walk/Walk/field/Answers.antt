-- A field keeps the invariant of the walk.
use Rattle.std.proofs.Common.{◌+◌, refl, arith}
use Rattle.bufr_expand.specs.declared.walk_state.State.TheVariants.{Going}
use Rattle.bufr_expand.proofs.LoopFacts.{going_on}
use Rattle.bufr_expand.proofs.walk.Walk.field.Goals as goal

pub invariant_of-self-in_default-kind : goal.invariant_of-self-in_default-kind
invariant_of-self-in_default-kind c =
    let w = c.args.self.now in
    let in_list = w.within.1 in
    going_on w w.state (w.place + 1) c.requires.goes c.requires.goes (omega arith) (omega arith)

pub invariant_of-self-in-Count : goal.invariant_of-self-in-Count
invariant_of-self-in-Count c =
    let w = c.args.self.now in
    let in_list = w.within.1 in
    going_on w Going (w.place + 1) c.requires.goes refl (omega arith) (omega arith)
