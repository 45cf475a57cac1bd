-- At the end of a turn the replication is over, too large, or has one turn fewer.
use Rattle.std.proofs.Common.{rules, ◌≡◌, [], ◌∷◌, ◌++◌, length, Ok, Err, refl, sym, ap, ◌∙◌}
use Rattle.std.proofs.Common.{arith}
use Rattle.std.proofs.lemmas.List.{nil_from_length, length_push}
use Rattle.bufr_expand.specs.Walks.{left, waits, items_met, steps_left, is_waiting}
use Rattle.bufr_expand.specs.Courses.{stops, ends}
use Rattle.bufr_expand.specs.declared.walk.Step.TheVariants as steps
use Rattle.bufr_expand.specs.declared.walk.WalkFault.TheVariants.{TooLarge}
use Rattle.bufr_expand.proofs.LoopFacts.{in_front-mono, open_more, open_fewer, inside_of, going_at}
use Rattle.bufr_expand.proofs.PassFacts.{goes_as, left_going, none_left, turn-over, turn-more}
use Rattle.bufr_expand.proofs.PassFacts.{turn-limit, one_turn_fewer}
use Rattle.bufr_expand.proofs.walk.Walk.turn.Goals as goal

pub invariant_of-self-then-turn-eq0 : goal.invariant_of-self-then-turn-eq0
invariant_of-self-then-turn-eq0 c =
    let w = c.args.self.now in
    let t = c.in-Some.turn in
    let rest = c.pop.new.self in
    let s = open_fewer w.nodes.now rest.items w.loops.items t c.in-Some.ensures.items w.in_bodies in
    let mono = in_front-mono w.nodes.now t.from t.to s.1.0.1 in
    let at = going_at w.state w.nodes.now t.to (length rest.items) c.requires.goes
    (omega (arith, s.1.0.0, mono)) in
    record {
      within = (s.1.1.0, s.1.1.1);
      in_bodies = s.0;
      has_begun = at.0;
      is_inside = at.1;
      has_room = omega (arith, w.has_room, c.pop.ensures.capacity);
    }

pub returns-then-turn-eq0-clause-on : goal.returns-then-turn-eq0-clause-on
unfolding waits steps_left
returns-then-turn-eq0-clause-on c =
    let w = c.args.self.now in
    let t = c.in-Some.turn in
    let rest = c.pop.new.self in
    let number = ap length c.in-Some.ensures.items ∙ length_push rest.items t in (
      left_going _ rest.items c.requires.goes refl
          ∙ sym (turn-over w rest.items t c.requires.goes c.in-Some.ensures.items c.requires.passed
          c.if-turn-eq0.true),
      ap is_waiting c.requires.goes,
      omega (arith, number),
    )

pub invariant_of-self-then-self-ge-MOST_ITEMS : goal.invariant_of-self-then-self-ge-MOST_ITEMS
invariant_of-self-then-self-ge-MOST_ITEMS c =
    let w = c.args.self.now in
    let rest = c.pop.new.self in
    let s = open_fewer w.nodes.now rest.items w.loops.items c.in-Some.turn c.in-Some.ensures.items
    w.in_bodies in
    let inside = inside_of w.state w.nodes.now w.place (length w.loops.items) c.requires.goes
    w.is_inside in
    let at = going_at w.state w.nodes.now w.place (length rest.items) c.requires.goes
    (omega (arith, s.2, inside)) in
    record {
      within = w.within;
      in_bodies = s.0;
      has_begun = at.0;
      is_inside = at.1;
      has_room = omega (arith, w.has_room, c.pop.ensures.capacity);
    }

pub returns-then-self-ge-MOST_ITEMS-clause-answer :
    goal.returns-then-self-ge-MOST_ITEMS-clause-answer
returns-then-self-ge-MOST_ITEMS-clause-answer c =
    let w = c.args.self.now in
    goes_as (left w) (stops w.items TooLarge) (Err TooLarge) c.refuse.new.self
    (turn-limit w c.pop.new.self.items c.in-Some.turn c.requires.goes c.in-Some.ensures.items
    c.requires.passed (omega arith) c.if-self-ge-MOST_ITEMS.true)
    (refl, c.refuse.ensures.course, c.refuse.ensures.goes, c.refuse.ensures.items)

pub invariant_of-self-2 : goal.invariant_of-self-2
invariant_of-self-2 c =
    let w = c.args.self.now in
    let t = c.in-Some.turn in
    let rest = c.pop.new.self in
    let s = open_fewer w.nodes.now rest.items w.loops.items t c.in-Some.ensures.items w.in_bodies in
    let now = open_more w.nodes.now rest.items c.push.new.self.items (one_turn_fewer t)
    (rw c.unwrap.ensures at c.push.ensures.items) s.0 s.1 in
    let at = going_at w.state w.nodes.now t.from (length c.push.new.self.items) c.requires.goes
    (omega (arith, now.1, s.1.0.0)) in
    record {
      within = (omega (arith, s.1.0.1, s.1.1.0), s.1.1.0);
      in_bodies = now.0;
      has_begun = at.0;
      is_inside = at.1;
      has_room = omega (arith, w.has_room, c.pop.ensures.capacity, c.push.ensures.capacity);
    }

pub returns-clause-on : goal.returns-clause-on
unfolding waits steps_left
returns-clause-on c =
    let w = c.args.self.now in
    let t = c.in-Some.turn in
    let rest = c.pop.new.self in
    let pushed : c.push.new.self.items ≡ rest.items ++ one_turn_fewer t ∷ [] =
    rw c.unwrap.ensures at c.push.ensures.items in
    let number = ap length pushed ∙ length_push rest.items (one_turn_fewer t) in
    let number_old = ap length c.in-Some.ensures.items ∙ length_push rest.items t in (
      left_going _ _ c.requires.goes pushed
          ∙ sym (turn-more w rest.items t c.requires.goes c.in-Some.ensures.items c.requires.passed
          (omega arith) c.if-self-ge-MOST_ITEMS.false),
      ap is_waiting c.requires.goes,
      omega (arith, number, number_old),
    )

pub returns-in_default-clause-answer : goal.returns-in_default-clause-answer
unfolding waits items_met
returns-in_default-clause-answer c =
    let w = c.args.self.now in
    let none : length w.loops.items ≡ 0 = search rules in
    let none_now : length c.pop.new.self.items ≡ 0 = search rules in
    goes_as (left w) (ends w.items) (Ok steps.End) _
    (none_left w c.requires.goes (nil_from_length w.loops.items none) c.requires.passed) (
      refl,
      none_left _ c.requires.goes (nil_from_length c.pop.new.self.items none_now)
          c.requires.passed,
      ap is_waiting c.requires.goes,
      refl,
    )
