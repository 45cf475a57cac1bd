-- The course after all turns of the innermost replication.
use Rattle.std.proofs.Common.{◌+◌, ◌<◌, ◌≤◌, arith}
use Rattle.bufr_expand.specs.Limits.{most_items}
use Rattle.bufr_expand.proofs.RunFacts.{turns_passed}
use Rattle.bufr_expand.proofs.walk.Walk.pass_turns.Goals as goal

pub returns-clause-passed : goal.returns-clause-passed
returns-clause-passed c =
    let w = c.args.self.now in
    let run = c.in_ok-run.run' in
    let room : w.items + run.items ≤ most_items =
    omega (arith, c.in_ok-turn.ensures.room) in
    let some : 0 < run.items =
    omega (arith, c.in_ok-run.ensures.each_counts, c.in_ok-turn.ensures.some) in
    turns_passed w _ c.in_ok-turn.turn run c.in_ok-turn.ensures.innermost room c.in_ok-run.ensures some
    c.leave.ensures
