use Rattle.std.proofs.Common.{◌≡◌, ◌+◌, [], ◌∷◌, length, length-append, refl, ap, ◌∙◌, arith}
use Rattle.bufr_fields.specs.StepLaws.{ready_there}
use Rattle.bufr_data.proofs.PlainFacts.Reads.{behind_none, fields_read}
use Rattle.bufr_data.proofs.plain.read.read_fields.Goals as goal

pub loop-fields-init : goal.loop-fields-init
loop-fields-init c =
    rw c.in_ok-fields.ensures.items (record {
      ready = ready_there _ _ _ c.in_ok-walk.ensures.answered c.in_ok-walk.ensures.items
          c.in_ok-walk.ensures.course;
      few = omega arith;
      items = omega (arith, c.in_ok-walk.ensures.items);
      octets = refl;
      onward = omega arith;
      so_far = rw c.in_ok-walk.ensures.course (behind_none _);
    })

pub loop-fields-preserved : goal.loop-fields-preserved
loop-fields-preserved c =
    let step = rw c.in-Some.is at c.in_ok-field.ensures.ok in
    let goes = rw c.in-Some.is at c.in_ok-field.ensures.goes_on in
    let grown = c.in_ok-push.ensures.items in
    let len : length c.push.new.self.items ≡ length c.loop-fields.fields.items + 1 =
    ap length grown ∙ length-append c.loop-fields.fields.items (c.in-Some.field ∷ []) in
    record {
      ready = goes.ready;
      few = omega (arith, goes.further, goes.within, c.loop-fields.invariant.items);
      items = omega (arith, goes.further, c.loop-fields.invariant.items);
      octets = c.in_ok-field.ensures.octets ∙ c.loop-fields.invariant.octets;
      onward = omega (arith, c.in_ok-field.ensures.onward, c.loop-fields.invariant.onward);
      so_far =
          fields_read _ _ _ _ _ _ _ _ _ grown
          (omega (arith, c.len.ensures)) c.loop-fields.invariant.so_far step;
    }
