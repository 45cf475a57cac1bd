-- One step of the walk is one step of its course.
use Rattle.std.proofs.lemmas.Result.{err_from_is_err_and}
use Rattle.bufr_base.specs.declared.failure.Failure.TheVariants.{Fault}
use Rattle.bufr_listing.specs.declared.fault.Cause.TheVariants as causes
use Rattle.bufr_listing.specs.declared.fault.ListingFault.TheVariants.{Refused}
use Rattle.bufr_listing_reader.specs.Cursors.{left, past, printed}
use Rattle.bufr_listing_reader.proofs.StepFacts.{field_is_read}
use Rattle.bufr_listing_reader.proofs.StepFacts.{count_is_read, field_is_refused, count_is_refused}
use Rattle.bufr_listing_reader.proofs.StepFacts.{end_is_read, stop_is_refused, stop_none, stop_some}
use Rattle.bufr_listing_reader.proofs.StepFacts.{count_fits}
use Rattle.bufr_listing_reader.proofs.subsets.read_field.Goals as goal
use Rattle.bufr_fields.specs.StepLaws.{field_goes_on, count_goes_on}

pub returns-in_err-line-in-Err-clause-err : goal.returns-in_err-line-in-Err-clause-err
returns-in_err-line-in-Err-clause-err c =
    let p = err_from_is_err_and c.from_residual.result c.from_residual.ensures.1 in
    rw (p.1, p.2) (stop_is_refused _ _ _ _ _ _ c.in-Err.ensures
    (λ met. stop_none _ met _ _ _ c.in_err-line-in-Err.ensures.taken))

pub returns-in-Err-clause-err : goal.returns-in-Err-clause-err
returns-in-Err-clause-err c =
    let line = c.in_ok-line-in-Err.line in
    let last = past c.args.lines.now in
    let ls = left c.args.lines.now in
    rw c.from.ensures (stop_is_refused _ _ last ls c.in-Err.fault
    (Fault (Refused line.number (causes.Walk c.in-Err.fault))) c.in-Err.ensures
    (λ met. stop_some last met c.in-Err.fault ls (printed line) (left c.take.new.self)
    c.in_ok-line-in-Err.ensures.taken))

pub returns-in_err-field-in-Field-clause-err : goal.returns-in_err-field-in-Field-clause-err
returns-in_err-field-in-Field-clause-err c =
    let p = err_from_is_err_and c.from_residual-in_err-field-in-Field.result
    c.from_residual-in_err-field-in-Field.ensures.1 in
    let goes = rw c.in-Field.is at c.in-Ok.ensures in
    rw (p.1, p.2) (field_is_refused _ _ _ _ _ _ _ goes c.in_err-field-in-Field.ensures.read)

pub returns-in_err-field-in-Count-clause-err : goal.returns-in_err-field-in-Count-clause-err
returns-in_err-field-in-Count-clause-err c =
    let p = err_from_is_err_and c.from_residual-in_err-field-in-Count.result
    c.from_residual-in_err-field-in-Count.ensures.1 in
    let goes = rw c.in-Count.is at c.in-Ok.ensures in
    rw (p.1, p.2) (count_is_refused _ _ _ _ _ _ _ goes c.in_err-field-in-Count.ensures.read)

pub count-requires-clause-fits : goal.count-requires-clause-fits
count-requires-clause-fits c =
    let goes = rw c.in-Count.is at c.in-Ok.ensures in
    rw c.number.ensures (count_fits _ _ _ _ _ _ _ _ goes c.in_ok-field-in-Count.ensures.read)

pub returns-in-End-clause-ok : goal.returns-in-End-clause-ok
returns-in-End-clause-ok c =
    let goes = rw c.in-End.is at c.in-Ok.ensures in
    end_is_read _ _ _ _ goes

pub returns-in_ok-field-in-Field-clause-ok : goal.returns-in_ok-field-in-Field-clause-ok
returns-in_ok-field-in-Field-clause-ok c =
    let goes = rw c.in-Field.is at c.in-Ok.ensures in
    field_is_read _ _ _ _ _ _ _ _ c.requires goes c.in_ok-field-in-Field.ensures.read

pub returns-in_ok-field-in-Field-clause-advances : goal.returns-in_ok-field-in-Field-clause-advances
returns-in_ok-field-in-Field-clause-advances c =
    let goes = rw c.in-Field.is at c.in-Ok.ensures in
    field_goes_on _ _ _ _ c.requires goes

pub returns-in_ok-field-in-Count-clause-ok : goal.returns-in_ok-field-in-Count-clause-ok
returns-in_ok-field-in-Count-clause-ok c =
    let goes = rw c.in-Count.is at c.in-Ok.ensures in
    let counted = rw c.number.ensures at c.count.ensures in
    count_is_read _ _ _ _ _ _ _ _ _ goes counted c.in_ok-field-in-Count.ensures.read

pub returns-in_ok-field-in-Count-clause-advances : goal.returns-in_ok-field-in-Count-clause-advances
returns-in_ok-field-in-Count-clause-advances c =
    let goes = rw c.in-Count.is at c.in-Ok.ensures in
    count_goes_on _ _ _ _ _ _ c.requires goes c.count.ensures
