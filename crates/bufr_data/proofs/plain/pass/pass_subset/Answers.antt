use Rattle.std.proofs.Common.{[], refl, ◌∙◌, arith}
use Rattle.bufr_fields.specs.StepLaws.{ready_there}
use Rattle.bufr_expand.specs.Walks as walks
use Rattle.bufr_data.proofs.PlainFacts.Reads.{behind_none}
use Rattle.bufr_data.proofs.PlainFacts.Passed.{more_passed}
use Rattle.bufr_data.proofs.plain.pass.pass_subset.Goals as goal

pub loop-fault-init : goal.loop-fault-init
loop-fault-init c = record {
  ready = ready_there _ _ _ c.in_ok-walk.ensures.answered c.in_ok-walk.ensures.items
      c.in_ok-walk.ensures.course;
  few = omega arith;
  items = omega arith;
  octets = refl;
  onward = omega arith;
  so_far = ([], rw c.in_ok-walk.ensures.course (behind_none _));
}

pub loop-fault-preserved : goal.loop-fault-preserved
loop-fault-preserved c =
    let step = rw c.in-Ok-Some.field-0-is at c.in-Ok-Some.ensures.ok in
    let goes = rw c.in-Ok-Some.field-0-is at c.in-Ok-Some.ensures.advances in
    let counted = rw c.in-Ok-Some.field-0-is at c.in-Ok-Some.ensures.counted in
    record {
      ready = goes.ready;
      few = omega (arith, goes.within, counted);
      items = counted;
      octets = c.in-Ok-Some.ensures.octets ∙ c.loop-fault.invariant.octets;
      onward = omega (arith, c.in-Ok-Some.ensures.onward, c.loop-fault.invariant.onward);
      so_far =
          more_passed _ c.loop-fault.i c.in-Ok-Some.next _ _ _ _
          (walks.items_met c.pass_next.new.walk) c.loop-fault.invariant.so_far step;
    }
