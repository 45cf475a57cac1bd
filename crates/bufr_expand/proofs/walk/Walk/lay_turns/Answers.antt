-- Each turn left has the fields of its nodes.
use Rattle.std.proofs.Common.{rules, ◌≡◌, ◌+◌, ◌*◌, ◌≤◌, length, refl, arith}
use Rattle.bufr_expand.specs.Limits.{most_items}
use Rattle.bufr_expand.proofs.RunFacts.{even_turns_passed}
use Rattle.bufr_expand.proofs.walk.Walk.lay_turns.Goals as goal

pub returns-in-Some-checked_mul-clause-passed : goal.returns-in-Some-checked_mul-clause-passed
returns-in-Some-checked_mul-clause-passed c =
    let w = c.args.self.now in
    let turn = c.in-Some.turn in
    let items = c.in-Some-checked_mul.items in
    let has = c.in-Some.ensures in
    let room : w.items + items ≤ most_items = omega (arith, has.room) in
    let each : items ≡ turn.turns * (length c.in-Some-2.fields.items + 1) = search rules in
    even_turns_passed w _ turn _ items has.innermost room has.some
    (rw c.in-Some-2.is at c.in_ok-fields.ensures) refl each c.leave.ensures
