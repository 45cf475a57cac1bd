-- One step of the walk is one step of reading.
use Rattle.std.proofs.lemmas.Result.{err_from_is_err_and}
use Rattle.bufr_data.proofs.PlainFacts.Reads.{step_is_read, step_is_missing, end_is_read, stop_is_read}
use Rattle.bufr_data.proofs.PlainFacts.Reads.{count_read_fits}
use Rattle.bufr_fields.specs.StepLaws.{field_asked, count_asked, field_goes, count_goes}
use Rattle.bufr_fields.specs.StepLaws.{field_goes_on, count_goes_on}
use Rattle.bufr_data.proofs.plain.read.read_field.Goals as goal

pub returns-in-Err-clause-err : goal.returns-in-Err-clause-err
returns-in-Err-clause-err c =
    stop_is_read _ _ c.args.i _ _ _ c.in-Err.ensures c.fault_of.ensures.fields

pub returns-in_err-raw-in-Field-clause-err : goal.returns-in_err-raw-in-Field-clause-err
returns-in_err-raw-in-Field-clause-err c =
    let p = err_from_is_err_and c.from_residual.result c.from_residual.ensures.1 in
    let goes = rw c.in-Field.is at c.in-Ok.ensures in
    rw (p.1, p.2)
    (step_is_missing _ _ _ _ _ _ (field_asked _ _ _ _ goes) c.in_err-raw-in-Field.ensures.exact)

pub returns-in_err-raw-in-Count-clause-err : goal.returns-in_err-raw-in-Count-clause-err
returns-in_err-raw-in-Count-clause-err c =
    let p =
    err_from_is_err_and c.from_residual-in_err-raw-in-Count.result
    c.from_residual-in_err-raw-in-Count.ensures.1 in
    let goes = rw c.in-Count.is at c.in-Ok.ensures in
    rw (p.1, p.2)
    (step_is_missing _ _ _ _ _ _ (count_asked _ _ _ _ goes) c.in_err-raw-in-Count.ensures.exact)

pub count-requires-clause-fits : goal.count-requires-clause-fits
count-requires-clause-fits c =
    let goes = rw c.in-Count.is at c.in-Ok.ensures in
    rw c.number.ensures (count_read_fits _ _ _ _ _ _ _ _ goes c.in_ok-raw-in-Count.ensures.exact)

pub returns-in-End-clause-ok : goal.returns-in-End-clause-ok
returns-in-End-clause-ok c =
    let goes = rw c.in-End.is at c.in-Ok.ensures in
    end_is_read _ _ _ _ goes

pub returns-in_ok-raw-in-Field-clause-ok : goal.returns-in_ok-raw-in-Field-clause-ok
returns-in_ok-raw-in-Field-clause-ok c =
    let goes = rw c.in-Field.is at c.in-Ok.ensures in
    step_is_read _ _ _ _ _ _ _ _ (field_goes _ _ _ _ _ c.requires goes)
    c.in_ok-raw-in-Field.ensures.exact

pub returns-in_ok-raw-in-Field-clause-goes_on : goal.returns-in_ok-raw-in-Field-clause-goes_on
returns-in_ok-raw-in-Field-clause-goes_on c =
    let goes = rw c.in-Field.is at c.in-Ok.ensures in
    field_goes_on _ _ _ _ c.requires goes

pub returns-in_ok-raw-in-Count-clause-ok : goal.returns-in_ok-raw-in-Count-clause-ok
returns-in_ok-raw-in-Count-clause-ok c =
    let goes = rw c.in-Count.is at c.in-Ok.ensures in
    let counted = rw c.number.ensures at c.count.ensures in
    step_is_read _ _ _ _ _ _ _ _ (count_goes _ _ _ _ _ _ goes counted)
    c.in_ok-raw-in-Count.ensures.exact

pub returns-in_ok-raw-in-Count-clause-goes_on : goal.returns-in_ok-raw-in-Count-clause-goes_on
returns-in_ok-raw-in-Count-clause-goes_on c =
    let goes = rw c.in-Count.is at c.in-Ok.ensures in
    count_goes_on _ _ _ _ _ _ c.requires goes c.count.ensures
