-- The loops but the last are left, and the nodes after its body come next.
use Rattle.std.proofs.Common.{◌≡◌, ◌-◌, ◌++◌, ◌∷◌, [], length, take, vec_len, sym, ap, ◌∙◌, refl, arith}
use Rattle.bufr_expand.proofs.LoopFacts.{in_front-mono, open_fewer, going_at}
use Rattle.bufr_expand.proofs.RunFacts.{has_left}
use Rattle.bufr_expand.proofs.walk.Walk.leave.Goals as goal

pub invariant_of-self : goal.invariant_of-self
invariant_of-self c =
    let w = c.args.self.now in
    let t = c.args.turn in
    let inner = c.requires.innermost in
    let rest = c.pop.new.self in
    let all : vec_len w.loops ≡ length w.loops.items = omega (arith, w.loops.ok.0) in
    let popped = c.pop.ensures.rest ∙ ap (λ n. take (n - 1) w.loops.items) all in
    let s = open_fewer w.nodes.now rest.items w.loops.items t
    (inner.loops_are ∙ ap (λ os. os ++ t ∷ []) (sym popped)) w.in_bodies in
    let mono = in_front-mono w.nodes.now t.from t.to s.1.0.1 in
    let at = going_at w.state w.nodes.now t.to (length rest.items) inner.goes
    (omega (arith, s.1.0.0, mono)) in
    record {
      within = (s.1.1.0, s.1.1.1);
      in_bodies = s.0;
      has_begun = at.0;
      is_inside = at.1;
      has_room = omega (arith, w.has_room, c.pop.ensures.capacity);
    }

pub returns : goal.returns
returns c =
    let w = c.args.self.now in
    let all : vec_len w.loops ≡ length w.loops.items = omega (arith, w.loops.ok.0) in
    let popped = c.pop.ensures.rest ∙ ap (λ n. take (n - 1) w.loops.items) all in
    has_left w _ c.args.turn c.args.items c.requires.innermost.goes refl refl refl popped refl refl
