-- The course after a node, by its kind.
use Rattle.std.proofs.Common.{◌≡◌, ◌+◌, Err, refl, sym, ap, ◌∙◌, arith}
use Rattle.bufr_expand.specs.Walks.{left, left_in, going, waits, is_waiting, steps_left, turns_then}
use Rattle.bufr_expand.specs.Walks.{behind_all}
use Rattle.bufr_expand.specs.declared.node.Node.TheVariants as nodes
use Rattle.bufr_expand.specs.declared.walk.WalkFault.TheVariants.{TooLarge}
use Rattle.bufr_expand.specs.OperatorsInForce.{effective}
use Rattle.bufr_expand.specs.Courses.{course_then, stops}
use Rattle.bufr_expand.specs.Trees as trees
use Rattle.bufr_expand.specs.Trees.{tree_within}
use Rattle.bufr_expand.proofs.Between.{tree_of-repeated, tree_of-delayed}
use Rattle.bufr_expand.proofs.PassFacts.{goes_as, visit-limit, at_node, behind_place, body_trees}
use Rattle.bufr_expand.proofs.PassFacts.{spec_ok}
use Rattle.bufr_expand.proofs.walk.Walk.visit.Goals as goal

pub returns-then-self-ge-MOST_ITEMS-clause-answer :
    goal.returns-then-self-ge-MOST_ITEMS-clause-answer
returns-then-self-ge-MOST_ITEMS-clause-answer c =
    let w = c.args.self.now in
    goes_as (left w) (stops w.items TooLarge) (Err TooLarge) c.refuse.new.self
    (visit-limit w c.requires.goes c.requires.more w.within.1 c.if-self-ge-MOST_ITEMS.true)
    (refl, c.refuse.ensures.course, c.refuse.ensures.goes, c.refuse.ensures.items)

pub returns-in-Element-clause-answer : goal.returns-in-Element-clause-answer
unfolding course_then tree_within
returns-in-Element-clause-answer c =
    let w = c.args.self.now in
    let o = c.in-Element in
    let spec = c.ok-spec.ensures.value
    ∙ spec_ok c.effective.result (effective o.fxy o.element w.operators)
    (λ e. e ≡ record { 0 = o.fxy }) c.effective.ensures in
    goes_as (left w) _ c.field.result c.field.new.self
    (at_node w (nodes.Element o.fxy o.element) _ _ _ c.requires.goes c.requires.more w.within.1 o.is
    c.if-self-ge-MOST_ITEMS.false refl refl)
    (rw spec at c.field.ensures)

pub returns-in-Untouched-clause-answer : goal.returns-in-Untouched-clause-answer
unfolding course_then tree_within
returns-in-Untouched-clause-answer c =
    let w = c.args.self.now in
    let o = c.in-Untouched in
    let met = c.field-in-Untouched in
    goes_as (left w) _ met.result met.new.self
    (at_node w (nodes.Untouched o.fxy o.element) _ _ _ c.requires.goes c.requires.more w.within.1
    o.is c.if-self-ge-MOST_ITEMS.false refl refl)
    (rw c.untouched.ensures at met.ensures)

pub returns-in-Operator-clause-on : goal.returns-in-Operator-clause-on
unfolding course_then tree_within left waits steps_left
returns-in-Operator-clause-on c =
    let w = c.args.self.now in
    let o = c.in-Operator in (
      ap (λ s. left_in s w.nodes.now (w.place + 1) w.stop w.loops.items c.put.new.self
          (w.items + 1)) c.requires.goes
          ∙ ap (λ q. going w.nodes.now (w.place + 1) w.stop w.loops.items q (w.items + 1))
          c.put.ensures
          ∙ sym (at_node w (nodes.Operator o.fxy) _ _ _ c.requires.goes c.requires.more w.within.1
          o.is c.if-self-ge-MOST_ITEMS.false refl refl),
      ap is_waiting c.requires.goes,
      omega arith,
    )

pub returns-in-Repeated-clause-on : goal.returns-in-Repeated-clause-on
unfolding course_then steps_left
returns-in-Repeated-clause-on c =
    let w = c.args.self.now in
    let o = c.in-Repeated in
    let tree = tree_of-repeated o.times o.len (behind_place w)
    ∙ body_trees w o.len (trees.repeated o.times) c.requires.more in
    let steps = c.enter.ensures.steps in (
      c.enter.ensures.course
          ∙ ap (λ to. turns_then w.nodes.now o.times (w.place + 1) to w.stop
          (behind_all w.nodes.now w.loops.items) w.operators (w.items + 1)) c.body_end-self.ensures
          ∙ sym (at_node w (nodes.Repeated o.times o.len) _ _ _ c.requires.goes c.requires.more
          w.within.1 o.is c.if-self-ge-MOST_ITEMS.false tree refl),
      c.enter.ensures.goes,
      omega arith,
    )

pub returns-in-Delayed-clause-answer : goal.returns-in-Delayed-clause-answer
unfolding course_then
returns-in-Delayed-clause-answer c =
    let w = c.args.self.now in
    let o = c.in-Delayed in
    let tree = tree_of-delayed o.fxy o.element o.len (behind_place w)
    ∙ body_trees w o.len (trees.delayed o.fxy o.element) c.requires.more in
    goes_as (left w) _ c.begin_count.result c.begin_count.new.self
    (at_node w (nodes.Delayed o.fxy o.element o.len) _ _ _ c.requires.goes c.requires.more
    w.within.1 o.is c.if-self-ge-MOST_ITEMS.false tree refl)
    c.begin_count.ensures
