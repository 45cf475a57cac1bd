-- The innermost replication is the last of those that are open.
use Rattle.std.proofs.Common.{rules, ◌≡◌, ◌-◌, ◌≤◌, length, Some, sym}
use Rattle.std.specs.List.{slice_get}
use Rattle.bufr_expand.specs.declared.walk_state.Open.{Open}
use Rattle.bufr_expand.specs.declared.walk.Walk.{Walk}
use Rattle.bufr_expand.proofs.LoopFacts.{open_fewer}
use Rattle.bufr_expand.proofs.RunFacts.{last_apart}
use Rattle.bufr_expand.proofs.walk.Walk.turns_left.Goals as goal

within : (w : Walk) (turn : Open)
    → slice_get w.loops.items (length w.loops.items - 1) ≡ Some turn
    → (turn.from ≤ turn.to) × (turn.to ≤ length w.nodes.now)
within w turn is =
    let s = open_fewer w.nodes.now _ w.loops.items turn (last_apart w.loops.items turn is)
    w.in_bodies in (s.1.0.1, s.1.1.0)

pub returns-clause-innermost : goal.returns-clause-innermost
returns-clause-innermost c = record {
  goes = search rules;
  passed = c.if-self.false;
  loops_are = last_apart c.args.self.now.loops.items c.in_ok-turn.field-0.now
      (sym (rw c.deref.ensures.value at c.in_ok-turn.ensures.value));
}

pub returns-clause-order : goal.returns-clause-order
returns-clause-order c =
    (within c.args.self.now c.in_ok-turn.field-0.now
    (sym (rw c.deref.ensures.value at c.in_ok-turn.ensures.value))).0

pub returns-clause-within : goal.returns-clause-within
returns-clause-within c =
    (within c.args.self.now c.in_ok-turn.field-0.now
    (sym (rw c.deref.ensures.value at c.in_ok-turn.ensures.value))).1
