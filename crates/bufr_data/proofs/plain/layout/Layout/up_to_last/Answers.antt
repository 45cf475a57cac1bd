-- Field by field along the walk, up to the last that is asked for.
use Rattle.std.proofs.Common.{arith}
use Rattle.std.proofs.lemmas.Option.{IfSome_then}
use Rattle.std.proofs.lemmas.Result.{IfOk-weaker}
use Rattle.bufr_fields.specs.StepLaws.{ready_there, field_goes_on}
use Rattle.bufr_data.proofs.PlainFacts.Layouts.{none_laid, one_laid, front_laid}
use Rattle.bufr_data.proofs.plain.layout.Layout.up_to_last.Goals as goal

pub loop-field-init : goal.loop-field-init
loop-field-init c =
    rw c.new-fields.ensures.items (record {
      ready = ready_there _ _ _ c.in_ok-walk.ensures.answered c.in_ok-walk.ensures.items
          c.in_ok-walk.ensures.course;
      limit = rw c.in_ok-walk.ensures.items (omega arith);
      so_far = none_laid _ _ c.in_ok-walk.ensures.course;
    })

pub loop-field-smaller : goal.loop-field-smaller
loop-field-smaller c =
    let goes = rw c.in-Ok-Some.field-0-is at c.in-Ok-Some.ensures in
    let on = field_goes_on _ _ _ _ c.loop-field.invariant.ready goes in
    omega (arith, on.further, on.within, c.loop-field.invariant.limit)

pub loop-field-preserved : goal.loop-field-preserved
loop-field-preserved c =
    let goes = rw c.in-Ok-Some.field-0-is at c.in-Ok-Some.ensures in
    let on = field_goes_on _ _ _ _ c.loop-field.invariant.ready goes in
    record {
      ready = on.ready;
      limit = on.within;
      so_far = one_laid _ _ _ _ _ c.in-Ok-Some.field c.in_ok-push.ensures.items goes c.loop-field.invariant.so_far;
    }

pub returns-then-has_no_more : goal.returns-then-has_no_more
returns-then-has_no_more c =
    let goes = rw c.in-Ok-Some.field-0-is at c.in-Ok-Some.ensures in
    let so_far =
    one_laid _ _ _ _ _ c.in-Ok-Some.field c.in_ok-push.ensures.items goes
    c.loop-field.invariant.so_far in
    IfOk-weaker c.laid_out.result _ _
    (λ found made. IfSome_then found made
    (λ layout has. front_laid c.args.template.now c.next_laid.new.walk c.args.asked.now _ _ layout
    so_far c.if-has_no_more.ensures has))
    c.laid_out.ensures
