-- Column by column along the walk.
use Rattle.std.proofs.Common.{◌≡◌, ◌∙◌, ◌+◌, ◌∷◌, [], Some, length, length-append, refl, ap, subst}
use Rattle.std.proofs.Common.{arith}
use Rattle.bufr_bits.specs.Ends.{left}
use Rattle.bufr_expand.specs.Walks as walks
use Rattle.bufr_data.specs.Compressed.Indexed.{Opens, PassesPlace}
use Rattle.bufr_fields.specs.StepLaws.{ready_there}
use Rattle.bufr_data.proofs.ListFacts.{all_grown}
use Rattle.bufr_data.proofs.CompressedFacts.Places.{behind_no_column, place_kept}
use Rattle.bufr_data.proofs.compressed.index.column_places.Goals as goal

pub loop-fault-init : goal.loop-fault-init
loop-fault-init c =
    rw c.new-places.ensures.items (record {
      ready = ready_there _ _ _ c.in_ok-walk.ensures.answered c.in_ok-walk.ensures.items
          c.in_ok-walk.ensures.course;
      few = omega arith;
      limit = omega (arith, c.in_ok-walk.ensures.items);
      octets = refl;
      onward = omega arith;
      open_all = tt;
      so_far = rw c.in_ok-walk.ensures.course (behind_no_column _);
    })

pub loop-fault-preserved : goal.loop-fault-preserved
loop-fault-preserved c =
    let octets = c.args.reader.now.octets in
    let passed = rw c.in-Ok-Some.field-0-is at c.in-Ok-Some.ensures.ok in
    let step =
    subst (λ os. PassesPlace c.args.subsets (c.len.result + 1) (walks.left c.loop-fault.walk) os
    (left c.loop-fault.reader) (Some c.in-Ok-Some.place) (walks.left c.next_place.new.walk)
    (left c.next_place.new.reader)) c.loop-fault.invariant.octets passed in
    let goes = rw c.in-Ok-Some.field-0-is at c.in-Ok-Some.ensures.advances in
    let grown = c.in_ok-push-in-Ok-Some.ensures.items in
    let len : length c.push.new.self.items ≡ length c.loop-fault.places.items + 1 =
    ap length grown ∙ length-append c.loop-fault.places.items (c.in-Ok-Some.place ∷ []) in
    record {
      ready = goes.ready;
      few = omega (arith, goes.further, c.loop-fault.invariant.few, len);
      limit = goes.within;
      octets = c.in-Ok-Some.ensures.octets ∙ c.loop-fault.invariant.octets;
      onward = omega (arith, c.in-Ok-Some.ensures.onward, c.loop-fault.invariant.onward);
      open_all = all_grown (Opens octets c.args.subsets) c.loop-fault.places.items _
          c.in-Ok-Some.place
          grown c.loop-fault.invariant.open_all step.0;
      so_far =
          place_kept octets c.args.subsets
          (c.len.result + 1) c.loop-fault.places.items _ c.in-Ok-Some.place _ _ _ _ _ grown
          (omega (arith, c.len.ensures)) c.loop-fault.invariant.so_far step;
    }
