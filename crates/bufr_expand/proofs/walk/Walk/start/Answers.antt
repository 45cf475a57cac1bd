-- No replication is open at the start of a template.
use Rattle.std.proofs.Common.{◌≡◌, ◌+◌, ◌≤◌, List, [], length, refl, rules, sym, ap, ◌∙◌, subst, arith}
use Rattle.bufr_expand.specs.declared.walk_state.Open.{Open}
use Rattle.bufr_expand.specs.Places.{in_front, AreOpen, replications}
use Rattle.bufr_expand.specs.Trees.{Tree, tree_of}
use Rattle.bufr_expand.specs.Courses.{course}
use Rattle.bufr_expand.specs.Walks.{left, waits, items_met}
use Rattle.bufr_expand.proofs.PassFacts.{at_front}
use Rattle.bufr_expand.proofs.walk.Walk.start.Goals as goal

pub invariant_of-result : goal.invariant_of-result
unfolding AreOpen
invariant_of-result c =
    let ns = c.as_slice-nodes.result.now in
    let is : ns ≡ c.template.inside.nodes.value.items = search rules in
    let none : c.in_ok-loops.loops.items ≡ [] = c.in_ok-loops.ensures.items in
    let number : length c.in_ok-loops.loops.items ≡ 0 = ap length none in
    let levels : c.template.inside.levels ≡ replications ns =
    c.template.invariant.1 ∙ sym (ap replications is) in
    let P : List Open → Type 0 = λ l. AreOpen ns 0 l in
    let front : 0 ≤ 0 = omega arith in
    let inside : length c.in_ok-loops.loops.items + 0 ≤ in_front ns 0 = omega (arith, number) in
    record {
      within = (omega arith, omega arith);
      in_bodies = subst P (sym none) tt;
      has_begun = front;
      is_inside = inside;
      has_room = omega (arith, c.in_ok-loops.ensures.exact, levels);
    }

pub returns-clause-course : goal.returns-clause-course
unfolding left
returns-clause-course c =
    let ns = c.as_slice-nodes.result.now in
    let is : ns ≡ c.template.inside.nodes.value.items = search rules in
    let e : tree_of ns ≡ c.args.template.now = ap tree_of is ∙ c.template.view_is in
    at_front ns c.in_ok-loops.loops.items c.none.result c.args.used
    c.in_ok-loops.ensures.items c.none.ensures
    ∙ ap (λ (t : Tree). course t c.args.used) e

pub returns-clause-answered : goal.returns-clause-answered
unfolding waits
returns-clause-answered c = refl

pub returns-clause-items : goal.returns-clause-items
unfolding items_met
returns-clause-items c = refl
