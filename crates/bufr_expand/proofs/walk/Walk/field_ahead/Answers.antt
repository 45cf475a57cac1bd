-- The course at an element, by its spec.
use Rattle.std.proofs.Common.{◌≡◌, ◌+◌, Some, refl, sym, ap, ◌∙◌}
use Rattle.bufr_expand.specs.declared.node.Node.TheVariants as nodes
use Rattle.bufr_expand.specs.OperatorsInForce.{effective, untouched}
use Rattle.bufr_expand.specs.Courses.{asks_if, course_then}
use Rattle.bufr_expand.specs.Trees.{tree_within}
use Rattle.bufr_expand.specs.Walks.{going}
use Rattle.bufr_expand.proofs.PassFacts.{at_node, spec_ok}
use Rattle.bufr_expand.proofs.walk.Walk.field_ahead.Goals as goal

pub returns-in_ok-spec-in-Element-clause-field : goal.returns-in_ok-spec-in-Element-clause-field
unfolding course_then tree_within
returns-in_ok-spec-in-Element-clause-field c =
    let w = c.args.self.now in
    let o = c.in-Element in
    let spec : effective o.fxy o.element w.operators ≡ Some c.in_ok-spec-in-Element.spec =
    sym (c.in_ok-spec-in-Element.ensures.value
    ∙ spec_ok c.effective.result (effective o.fxy o.element w.operators)
    (λ e. e ≡ record { 0 = o.fxy }) c.effective.ensures) in
    at_node w (nodes.Element o.fxy o.element) _ _ _ c.in-Going.is c.if-self.true w.within.1 o.is
    c.if-self-lt-MOST_ITEMS.true refl refl
    ∙ ap (λ found. asks_if found (w.items + 1) o.fxy (λ n. going w.nodes.now (w.place + 1) w.stop
    w.loops.items w.operators (w.items + 1))) spec

pub returns-in_ok-spec-in-Untouched-clause-field :
    goal.returns-in_ok-spec-in-Untouched-clause-field
unfolding course_then tree_within
returns-in_ok-spec-in-Untouched-clause-field c =
    let w = c.args.self.now in
    let o = c.in-Untouched in
    let spec : untouched o.element ≡ Some c.in_ok-spec-in-Untouched.spec =
    sym c.in_ok-spec-in-Untouched.ensures in
    at_node w (nodes.Untouched o.fxy o.element) _ _ _ c.in-Going.is c.if-self.true w.within.1 o.is
    c.if-self-lt-MOST_ITEMS.true refl refl
    ∙ ap (λ found. asks_if found (w.items + 1) o.fxy (λ n. going w.nodes.now (w.place + 1) w.stop
    w.loops.items w.operators (w.items + 1))) spec
