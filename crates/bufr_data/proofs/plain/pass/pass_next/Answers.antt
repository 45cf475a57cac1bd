-- Turns that the walk passes take exactly their bits; else one step of the walk is one step of
-- reading.
use Rattle.std.proofs.Common.{◌≡◌, ℕ, ◌<◌, ◌≤◌, Bool, true, false, List, [], ◌∷◌}
use Rattle.std.proofs.Common.{length, drop, arith}
use Rattle.std.specs.Bool.{OnTrue, OnFalse}
use Rattle.std.proofs.lemmas.Result.{err_from_is_err_and}
use Rattle.bufr_base.specs.declared.failure.Failure.TheVariants.{Fault}
use Rattle.bufr_bits.specs.Ends.{left}
use Rattle.bufr_fields.specs.declared.field.Raw.TheVariants.{Number}
use Rattle.bufr_fields.specs.StepLaws.{field_goes_on, count_goes_on, field_asked, count_asked}
use Rattle.bufr_fields.specs.StepLaws.{field_goes, count_goes}
use Rattle.bufr_data.proofs.PlainFacts.Alike.{turns_pass}
use Rattle.bufr_data.proofs.PlainFacts.Reads.{step_is_read, step_is_missing, end_is_read, stop_is_read}
use Rattle.bufr_data.proofs.PlainFacts.Reads.{count_read_fits}
use Rattle.bufr_data.proofs.plain.pass.pass_next.Goals as goal

there : (passed : Bool) (bits : ℕ) (front rest : List Bool) → OnTrue passed (rest ≡ drop bits front)
    → OnFalse passed (length front < bits) → bits ≤ length front → rest ≡ drop bits front
there true bits front rest behind short enough = behind
there false bits front rest behind short enough = absurd (omega (arith, short, enough))

pub returns-in-Some-clause-ok : goal.returns-in-Some-clause-ok
returns-in-Some-clause-ok c =
    let front = left c.args.reader.now in
    let enough : c.in-Some.run'.bits ≤ length front =
    omega (arith, c.in-Some.ensures.enough, c.left.ensures.bits) in
    turns_pass c.args.walk.now c.pass_run.new.walk c.in-Some.run' front _ c.requires.ready
    c.in-Some.ensures.passed enough
    (there c.pass.result _ front _ c.pass.ensures.rest c.pass.ensures.short enough) c.args.i

pub returns-in-Err-clause-err : goal.returns-in-Err-clause-err
returns-in-Err-clause-err c =
    let stops = rw c.in_default.ensures.unmoved at c.in-Err.ensures in
    stop_is_read _ _ c.args.i _ _ _ stops c.fault_of.ensures.fields

pub returns-in_err-pass_raw-in-Field-clause-err : goal.returns-in_err-pass_raw-in-Field-clause-err
returns-in_err-pass_raw-in-Field-clause-err c =
    let p = err_from_is_err_and c.from_residual.result c.from_residual.ensures.1 in
    let goes = rw (c.in-Field.is, c.in_default.ensures.unmoved) at c.in-Ok.ensures in
    rw (p.1, p.2)
    (step_is_missing _ c.args.i _ _ _ (Fault c.in_err-pass_raw-in-Field.field-0.0)
    (field_asked _ _ _ _ goes) c.in_err-pass_raw-in-Field.ensures.err)

pub returns-in_err-number-in-Count-clause-err : goal.returns-in_err-number-in-Count-clause-err
returns-in_err-number-in-Count-clause-err c =
    let p =
    err_from_is_err_and c.from_residual-in_err-number-in-Count.result
    c.from_residual-in_err-number-in-Count.ensures.1 in
    let goes = rw (c.in-Count.is, c.in_default.ensures.unmoved) at c.in-Ok.ensures in
    rw (p.1, p.2)
    (step_is_missing _ c.args.i _ _ _ (Fault c.in_err-number-in-Count.field-0.0)
    (count_asked _ _ _ _ goes) c.in_err-number-in-Count.ensures.err)

pub count-requires-clause-fits : goal.count-requires-clause-fits
count-requires-clause-fits c =
    let goes = rw (c.in-Count.is, c.in_default.ensures.unmoved) at c.in-Ok.ensures in
    count_read_fits _ _ c.args.i _ _ _ _
    (Number c.in_ok-number-in-Count.number) goes c.in_ok-number-in-Count.ensures.ok

pub returns-in-End-clause-ok : goal.returns-in-End-clause-ok
returns-in-End-clause-ok c =
    let goes = rw (c.in-End.is, c.in_default.ensures.unmoved) at c.in-Ok.ensures in
    end_is_read _ _ c.args.i _ goes

pub returns-in_ok-pass_raw-in-Field-clause-ok : goal.returns-in_ok-pass_raw-in-Field-clause-ok
returns-in_ok-pass_raw-in-Field-clause-ok c =
    let goes = rw (c.in-Field.is, c.in_default.ensures.unmoved) at c.in-Ok.ensures in
    let passed = c.in_ok-pass_raw-in-Field.ensures.ok in
    (_ ∷ [], step_is_read _ _ c.args.i _ _ _ _ passed.0 (field_goes _ _ _ _ _ c.requires.ready goes) passed.1)

pub returns-in_ok-pass_raw-in-Field-clause-advances :
    goal.returns-in_ok-pass_raw-in-Field-clause-advances
returns-in_ok-pass_raw-in-Field-clause-advances c =
    let goes = rw (c.in-Field.is, c.in_default.ensures.unmoved) at c.in-Ok.ensures in
    field_goes_on _ _ _ _ c.requires.ready goes

pub returns-in_ok-number-in-Count-clause-ok : goal.returns-in_ok-number-in-Count-clause-ok
returns-in_ok-number-in-Count-clause-ok c =
    let goes = rw (c.in-Count.is, c.in_default.ensures.unmoved) at c.in-Ok.ensures in
    let on = count_goes _ _ _ _ _ c.in_ok-number-in-Count.number goes c.count.ensures in (
      _ ∷ [],
      step_is_read _ _ c.args.i _ _ _ _ (Number c.in_ok-number-in-Count.number) on
          c.in_ok-number-in-Count.ensures.ok,
    )

pub returns-in_ok-number-in-Count-clause-advances :
    goal.returns-in_ok-number-in-Count-clause-advances
returns-in_ok-number-in-Count-clause-advances c =
    let goes = rw (c.in-Count.is, c.in_default.ensures.unmoved) at c.in-Ok.ensures in
    count_goes_on _ _ _ _ _ _ c.requires.ready goes c.count.ensures

pub overflow_add-result-in-Field : goal.overflow_add-result-in-Field
overflow_add-result-in-Field c =
    let goes = rw (c.in-Field.is, c.in_default.ensures.unmoved) at c.in-Ok.ensures in
    let on = field_goes_on _ _ _ _ c.requires.ready goes in
    omega (arith, c.requires.counted, on.further, on.within)

pub overflow_add-result-in-Count : goal.overflow_add-result-in-Count
overflow_add-result-in-Count c =
    let goes = rw (c.in-Count.is, c.in_default.ensures.unmoved) at c.in-Ok.ensures in
    let on = count_goes_on _ _ _ _ _ _ c.requires.ready goes c.count.ensures in
    omega (arith, c.requires.counted, on.further, on.within)

pub returns-in_ok-pass_raw-in-Field-clause-counted :
    goal.returns-in_ok-pass_raw-in-Field-clause-counted
returns-in_ok-pass_raw-in-Field-clause-counted c =
    let goes = rw (c.in-Field.is, c.in_default.ensures.unmoved) at c.in-Ok.ensures in
    let on = field_goes_on _ _ _ _ c.requires.ready goes in
    omega (arith, c.requires.counted, on.further)

pub returns-in_ok-number-in-Count-clause-counted :
    goal.returns-in_ok-number-in-Count-clause-counted
returns-in_ok-number-in-Count-clause-counted c =
    let goes = rw (c.in-Count.is, c.in_default.ensures.unmoved) at c.in-Ok.ensures in
    let on = count_goes_on _ _ _ _ _ _ c.requires.ready goes c.count.ensures in
    omega (arith, c.requires.counted, on.further)
