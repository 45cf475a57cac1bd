-- The walk waits for the number of a factor.
use Rattle.std.proofs.Common.{◌+◌, refl, ap}
use Rattle.bufr_expand.specs.OperatorsInForce.{factor_spec}
use Rattle.bufr_expand.specs.Courses.{asks}
use Rattle.bufr_expand.specs.Walks.{left, waits, items_met, turns_then, behind_all}
use Rattle.bufr_expand.proofs.walk.Walk.begin_count.Goals as goal

pub returns : goal.returns
unfolding left waits items_met
returns c =
    let w = c.args.self.now in (
      refl,
      ap (λ t. asks (w.items + 1) c.args.fxy (factor_spec c.args.element.now)
          (λ n. turns_then w.nodes.now n (w.place + 1) t w.stop
          (behind_all w.nodes.now w.loops.items) w.operators (w.items + 1)))
          c.body_end-self.ensures,
      refl,
      refl,
    )
