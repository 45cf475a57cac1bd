use Rattle.std.proofs.Common.{sym, ap, arith}
use Rattle.bufr_fields.specs.Forms.{items_of}
use Rattle.bufr_fields.specs.StepLaws.{ready_there}
use Rattle.bufr_fields.proofs.fit.fit_fields.Goals as goal

pub loop-index-init : goal.loop-index-init
loop-index-init c =
    record {
      ready = ready_there _ _ _ c.in_ok-walk.ensures.answered c.in_ok-walk.ensures.items
          c.in_ok-walk.ensures.course;
      few = omega arith;
      items = omega (arith, c.in_ok-walk.ensures.items);
      so_far = ap (λ k. items_of c.args.j 1 k c.args.fields.now) (sym c.in_ok-walk.ensures.course);
    }
