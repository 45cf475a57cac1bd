-- After the run come the nodes up to the same end.
use Rattle.std.proofs.Common.{◌≡◌, ◌+◌, ◌-◌, ◌≤◌, min, take, drop, length-take, ap, ◌∙◌, arith}
use Rattle.bufr_expand.proofs.Between.{between-parts}
use Rattle.bufr_expand.proofs.RunFacts.{begins_rest}
use Rattle.bufr_expand.proofs.walk.Walk.pass_elements.Goals as goal

pub go_past-requires-clause-begins : goal.go_past-requires-clause-begins
go_past-requires-clause-begins c =
    let w = c.args.self.now in
    let items = c.front_run-run.result.items in
    let nodes = w.nodes.now in
    let size = length-take (w.stop - w.place) (drop w.place nodes) in
    let within : items ≤ w.stop - w.place = omega (arith, size, c.front_run-run.ensures.within) in
    let parts = between-parts nodes w.place w.stop items (omega arith) in
    let at : w.place + min items (w.stop - w.place) ≡ w.place + items = omega (arith, within) in
    begins_rest _ _ _ _ _ (parts.1 ∙ ap (λ p. take (w.stop - p) (drop p nodes)) at)
    c.front_run-run.ensures.begins
