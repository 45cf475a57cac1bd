use Rattle.bufr_fields.specs.StepLaws.{field_asked, count_asked}
use Rattle.bufr_fields.proofs.FitSteps.{stop_misfits, end_fits, step_lacks}
use Rattle.bufr_fields.proofs.fit.end_fields.Goals as goal

pub returns-in-Err : goal.returns-in-Err
returns-in-Err c = stop_misfits _ _ _ _ _ _ _ c.in-Err.ensures c.misfit.ensures

pub returns-in-End : goal.returns-in-End
returns-in-End c =
    let goes = rw c.in-End.is at c.in-Ok.ensures in
    end_fits _ _ _ _ _ goes c.items.ensures

pub returns-in-Field : goal.returns-in-Field
returns-in-Field c =
    let goes = rw c.in-Field.is at c.in-Ok.ensures in
    step_lacks _ _ _ _ _ (field_asked _ _ _ _ goes)

pub returns-in-Count : goal.returns-in-Count
returns-in-Count c =
    let goes = rw c.in-Count.is at c.in-Ok.ensures in
    step_lacks _ _ _ _ _ (count_asked _ _ _ _ goes)
