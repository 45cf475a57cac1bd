use Rattle.std.proofs.Common.{◌∙◌, refl}
use Rattle.bufr_listing_reader.proofs.StepFacts.{behind_none, one_more}
use Rattle.bufr_listing_reader.proofs.subsets.read_fields.Goals as goal

pub loop-fields-init : goal.loop-fields-init
loop-fields-init c =
    rw c.new-fields.ensures.items (record {
      ready = record {
        answered = c.in_ok-walk.ensures.answered;
        steady =
            rw (c.in_ok-walk.ensures.items, c.in_ok-walk.ensures.course)
            (c.courses_are_steady.ensures.steady _ _);
      };
      last = refl;
      so_far = rw c.in_ok-walk.ensures.course (behind_none _);
    })

pub loop-fields-preserved : goal.loop-fields-preserved
loop-fields-preserved c =
    let step = rw c.in-Some.is at c.in_ok-field.ensures.ok in
    let own = rw c.loop-fields.invariant.last at step in
    let goes = rw c.in-Some.is at c.in_ok-field.ensures.advances in
    record {
      ready = goes.ready;
      last = c.in_ok-field.ensures.past ∙ c.loop-fields.invariant.last;
      so_far =
          one_more _ _ _ _ _ _ _ _ _ c.in_ok-push.ensures.items c.loop-fields.invariant.so_far own;
    }
