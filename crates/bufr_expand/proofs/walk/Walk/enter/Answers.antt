-- One more replication is open, at the end of its body.
use Rattle.std.proofs.Common.{length, refl, arith}
use Rattle.bufr_expand.specs.declared.walk_state.State.TheVariants.{Going}
use Rattle.bufr_expand.proofs.LoopFacts.{in_front-mono, open_more, going_at}
use Rattle.bufr_expand.proofs.PassFacts.{entered}
use Rattle.bufr_expand.proofs.walk.Walk.enter.Goals as goal

pub invariant_of-self : goal.invariant_of-self
invariant_of-self c =
    let w = c.args.self.now in
    let now = open_more w.nodes.now w.loops.items c.push.new.self.items _
    (rw c.unwrap.ensures at c.push.ensures.items) w.in_bodies
    ((c.requires.room, c.requires.order), (w.within.0, w.within.1)) in
    let mono = in_front-mono w.nodes.now c.args.from w.place c.requires.order in
    let at = going_at Going w.nodes.now w.place (length c.push.new.self.items) refl
    (omega (arith, now.1, mono, c.requires.room)) in
    record {
      within = (w.within.0, w.within.0);
      in_bodies = now.0;
      has_begun = at.0;
      is_inside = at.1;
      has_room = omega (arith, w.has_room, c.push.ensures.capacity);
    }

pub returns-clause-course : goal.returns-clause-course
returns-clause-course c =
    entered _ c.args.self.now.loops.items _ refl (rw c.unwrap.ensures at c.push.ensures.items)
    (omega arith)
