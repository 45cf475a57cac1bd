-- One step of the walk is one step of `items_of`.
use Rattle.std.proofs.lemmas.Result.{err_from_is_err_and}
use Rattle.bufr_fields.specs.StepLaws.{field_asked, count_asked, field_goes, count_goes}
use Rattle.bufr_fields.specs.StepLaws.{field_goes_on, count_goes_on}
use Rattle.bufr_fields.proofs.FitSteps.{step_is_written, count_written_fits, step_misfits}
use Rattle.bufr_fields.proofs.FitSteps.{end_misfits, stop_misfits, fits_is}
use Rattle.bufr_fields.proofs.fit.fit_field.Goals as goal

pub returns-in-Err-clause-err : goal.returns-in-Err-clause-err
returns-in-Err-clause-err c = λ rest. stop_misfits _ _ _ _ _ _ _ c.in-Err.ensures c.misfit.ensures

pub returns-in-End-clause-err : goal.returns-in-End-clause-err
returns-in-End-clause-err c =
    let goes = rw c.in-End.is at c.in-Ok.ensures in
    λ rest. end_misfits _ _ _ _ _ _ goes

pub returns-in_err-asked-in-Field-clause-err : goal.returns-in_err-asked-in-Field-clause-err
returns-in_err-asked-in-Field-clause-err c =
    let p = err_from_is_err_and c.from_residual.result c.from_residual.ensures.1 in
    let goes = rw c.in-Field.is at c.in-Ok.ensures in
    rw (p.1, p.2)
    (λ rest. step_misfits _ _ _ _ _ _ _ _ (field_asked _ _ _ _ goes)
    c.in_err-asked-in-Field.ensures)

pub returns-in_err-asked-in-Count-clause-err : goal.returns-in_err-asked-in-Count-clause-err
returns-in_err-asked-in-Count-clause-err c =
    let p =
    err_from_is_err_and c.from_residual-in_err-asked-in-Count.result
    c.from_residual-in_err-asked-in-Count.ensures.1 in
    let goes = rw c.in-Count.is at c.in-Ok.ensures in
    rw (p.1, p.2)
    (λ rest. step_misfits _ _ _ _ _ _ _ _ (count_asked _ _ _ _ goes)
    c.in_err-asked-in-Count.ensures)

pub returns-in_ok-asked-in-Field-clause-ok : goal.returns-in_ok-asked-in-Field-clause-ok
returns-in_ok-asked-in-Field-clause-ok c =
    let goes = rw c.in-Field.is at c.in-Ok.ensures in
    λ rest. step_is_written _ _ _ _ _ _ _ _ (field_goes _ _ _ _ _ c.requires goes)
    (fits_is _ _ _ _ c.in_ok-asked-in-Field.ensures)

pub returns-in_ok-asked-in-Field-clause-goes_on : goal.returns-in_ok-asked-in-Field-clause-goes_on
returns-in_ok-asked-in-Field-clause-goes_on c =
    let goes = rw c.in-Field.is at c.in-Ok.ensures in
    field_goes_on _ _ _ _ c.requires goes

pub count-requires-clause-fits : goal.count-requires-clause-fits
count-requires-clause-fits c =
    let goes = rw c.in-Count.is at c.in-Ok.ensures in
    rw c.number.ensures
    (count_written_fits _ _ _ _ _ goes (fits_is _ _ _ _ c.in_ok-asked-in-Count.ensures))

pub returns-in_ok-asked-in-Count-clause-ok : goal.returns-in_ok-asked-in-Count-clause-ok
returns-in_ok-asked-in-Count-clause-ok c =
    let goes = rw c.in-Count.is at c.in-Ok.ensures in
    let counted = rw c.number.ensures at c.count.ensures in
    λ rest. step_is_written _ _ _ _ _ _ _ _ (count_goes _ _ _ _ _ _ goes counted)
    (fits_is _ _ _ _ c.in_ok-asked-in-Count.ensures)

pub returns-in_ok-asked-in-Count-clause-goes_on : goal.returns-in_ok-asked-in-Count-clause-goes_on
returns-in_ok-asked-in-Count-clause-goes_on c =
    let goes = rw c.in-Count.is at c.in-Ok.ensures in
    count_goes_on _ _ _ _ _ _ c.requires goes c.count.ensures
