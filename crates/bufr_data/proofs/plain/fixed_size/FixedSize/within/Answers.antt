-- Field by field along the walk, until it ends or meets a count.
use Rattle.std.proofs.Common.{refl, arith}
use Rattle.bufr_fields.specs.StepLaws.{ready_there, field_goes_on}
use Rattle.bufr_data.proofs.PlainFacts.Alike.{none_measured, one_measured, turns_measured}
use Rattle.bufr_data.proofs.plain.fixed_size.FixedSize.within.Goals as goal

pub loop-run-init : goal.loop-run-init
loop-run-init c = record {
  ready = ready_there _ _ _ c.in_ok-walk.ensures.answered c.in_ok-walk.ensures.items
      c.in_ok-walk.ensures.course;
  few = omega arith;
  limit = rw c.in_ok-walk.ensures.items (omega arith);
  so_far = none_measured _ _ c.in_ok-walk.ensures.course;
}

pub loop-run-smaller : goal.loop-run-smaller
loop-run-smaller c =
    let goes = rw (c.in-Ok-Field.field-0-is, c.in_default.ensures.unmoved) at c.in-Ok-Field.ensures in
    let on = field_goes_on _ _ _ _ c.loop-run.invariant.ready goes in
    omega (arith, on.further, on.within, c.loop-run.invariant.limit)

pub loop-run-preserved-in-Some : goal.loop-run-preserved-in-Some
loop-run-preserved-in-Some c =
    let passed = c.in-Some.ensures.passed in
    record {
      ready = record { answered = passed.answered; steady = passed.steady };
      few = omega (arith, c.in-Some.ensures.enough, c.loop-run.invariant.few);
      limit = passed.within;
      so_far =
          turns_measured _ _ _ c.in-Some.run' _ _ refl passed c.loop-run.invariant.so_far;
    }

pub loop-run-preserved : goal.loop-run-preserved
loop-run-preserved c =
    let goes = rw (c.in-Ok-Field.field-0-is, c.in_default.ensures.unmoved) at c.in-Ok-Field.ensures in
    let on = field_goes_on _ _ _ _ c.loop-run.invariant.ready goes in
    record {
      ready = on.ready;
      few = omega (arith, c.if-more-most.true, c.loop-run.invariant.few);
      limit = on.within;
      so_far =
          one_measured _ _ _ _ _ _ _ _ refl goes c.in-Some-bits_of.ensures.takes
          c.loop-run.invariant.so_far;
    }
