-- One step of the walk passes one column.
use Rattle.std.proofs.Common.{◌≡◌, arith, drop, length, ap, sym}
use Rattle.std.proofs.lemmas.Result.{err_from_is_err_and}
use Rattle.bufr_bits.specs.Bits.{bits}
use Rattle.bufr_bits.specs.Ends.{left}
use Rattle.bufr_fields.specs.StepLaws.{field_goes_on, count_goes_on, field_asked, count_asked}
use Rattle.bufr_data.proofs.CompressedFacts.Passed.{factor_refused}
use Rattle.bufr_data.proofs.CompressedFacts.Places.{stop_refused, end_passes, step_past, step_refused}
use Rattle.bufr_data.proofs.CompressedFacts.Places.{field_passes, count_passes}
use Rattle.bufr_data.proofs.CompressedFacts.Places.{count_is_below, is_count}
use Rattle.bufr_data.proofs.compressed.index.next_place.Goals as goal

pub returns-in-Err-clause-err : goal.returns-in-Err-clause-err
returns-in-Err-clause-err c =
    stop_refused _ _ c.args.n c.args.i _ _ _ c.in-Err.ensures c.stop_fault.ensures

pub returns-in-End-clause-ok : goal.returns-in-End-clause-ok
returns-in-End-clause-ok c =
    let goes = rw c.in-End.is at c.in-Ok.ensures in
    end_passes _ _ c.args.n c.args.i c.args.reader.now.octets _ goes

pub returns-in_err-within_limit-in-Field-clause-err :
    goal.returns-in_err-within_limit-in-Field-clause-err
returns-in_err-within_limit-in-Field-clause-err c =
    let p = err_from_is_err_and c.from_residual.result c.from_residual.ensures.1 in
    let goes = rw c.in-Field.is at c.in-Ok.ensures in
    rw (p.1, p.2) (step_past _ c.args.n c.args.i _ _ _ _ (field_asked _ _ _ _ goes)
    (sym c.in_err-within_limit-in-Field.ensures))

pub returns-in_err-pass_column-in-Field-clause-err :
    goal.returns-in_err-pass_column-in-Field-clause-err
returns-in_err-pass_column-in-Field-clause-err c =
    let p =
    err_from_is_err_and c.from_residual-in_err-pass_column-in-Field.result
    c.from_residual-in_err-pass_column-in-Field.ensures.1 in
    let goes = rw c.in-Field.is at c.in-Ok.ensures in
    rw (p.1, p.2) (step_refused _ c.args.n c.args.i _ _ _ _ (field_asked _ _ _ _ goes)
    (sym c.in_ok-within_limit-in-Field.ensures)
    (factor_refused c.args.n c.args.i c.in-Field.spec (left c.args.reader.now) _
    c.in_err-pass_column-in-Field.ensures.err))

pub returns-in_err-within_limit-in-Count-clause-err :
    goal.returns-in_err-within_limit-in-Count-clause-err
returns-in_err-within_limit-in-Count-clause-err c =
    let p =
    err_from_is_err_and c.from_residual-in_err-within_limit-in-Count.result
    c.from_residual-in_err-within_limit-in-Count.ensures.1 in
    let goes = rw c.in-Count.is at c.in-Ok.ensures in
    rw (p.1, p.2) (step_past _ c.args.n c.args.i _ _ _ _ (count_asked _ _ _ _ goes)
    (sym c.in_err-within_limit-in-Count.ensures))

pub returns-in_err-number-in-Count-clause-err : goal.returns-in_err-number-in-Count-clause-err
returns-in_err-number-in-Count-clause-err c =
    let p =
    err_from_is_err_and c.from_residual-in_err-number-in-Count.result
    c.from_residual-in_err-number-in-Count.ensures.1 in
    let goes = rw c.in-Count.is at c.in-Ok.ensures in
    rw (p.1, p.2) (step_refused _ c.args.n c.args.i _ _ _ _ (count_asked _ _ _ _ goes)
    (sym c.in_ok-within_limit-in-Count.ensures) c.in_err-number-in-Count.ensures.err)

pub returns-in_ok-pass_column-in-Field-clause-ok : goal.returns-in_ok-pass_column-in-Field-clause-ok
returns-in_ok-pass_column-in-Field-clause-ok c =
    let goes = rw c.in-Field.is at c.in-Ok.ensures in
    let there : left c.args.reader.now ≡ drop c.place-bit.result (bits c.args.reader.now.octets) =
    ap (λ b. drop b (bits c.args.reader.now.octets)) (sym c.place-bit.ensures) in
    field_passes _ _ c.args.reader.now.octets c.args.n c.args.i c.in-Field.fxy c.place-bit.result
    c.in-Field.spec c.head_at-head.result (left c.args.reader.now)
    (left c.pass_column.new.reader) (rw c.octets-octets.ensures at c.head_at-head.ensures) c.requires.ready goes
    (sym c.in_ok-within_limit-in-Field.ensures) c.in_ok-pass_column-in-Field.ensures.ok there

pub returns-in_ok-pass_column-in-Field-clause-advances :
    goal.returns-in_ok-pass_column-in-Field-clause-advances
returns-in_ok-pass_column-in-Field-clause-advances c =
    let goes = rw c.in-Field.is at c.in-Ok.ensures in
    field_goes_on _ _ _ _ c.requires.ready goes

pub returns-in_ok-number-in-Count-clause-ok : goal.returns-in_ok-number-in-Count-clause-ok
returns-in_ok-number-in-Count-clause-ok c =
    let goes = rw c.in-Count.is at c.in-Ok.ensures in
    let there : left c.args.reader.now ≡ drop c.place-bit.result (bits c.args.reader.now.octets) =
    ap (λ b. drop b (bits c.args.reader.now.octets)) (sym c.place-bit.ensures) in
    count_passes _ _ _ c.args.reader.now.octets c.args.n c.args.i c.in-Count.fxy c.place-bit.result
    _ c.in-Count.spec c.head_at-head-in-Count.result (left c.args.reader.now)
    (left c.pass_factor.new.reader) (rw c.octets-octets.ensures at c.head_at-head-in-Count.ensures) goes c.count.ensures
    (sym c.in_ok-within_limit-in-Count.ensures) c.in_ok-number-in-Count.ensures.ok there

pub pass_factor-requires-clause-counts : goal.pass_factor-requires-clause-counts
pass_factor-requires-clause-counts c =
    let goes = rw c.in-Count.is at c.in-Ok.ensures in is_count _ _ _ _ goes

pub head_at-head-requires : goal.head_at-head-requires
head_at-head-requires c =
    let size = ap length c.octets-octets.ensures in
    omega (arith, size, c.place-bit.ensures, c.left-left.ensures.rest)

pub head_at-head-requires-in-Count : goal.head_at-head-requires-in-Count
head_at-head-requires-in-Count c =
    let size = ap length c.octets-octets.ensures in
    omega (arith, size, c.place-bit.ensures, c.left-left.ensures.rest)

pub count-requires-clause-fits : goal.count-requires-clause-fits
count-requires-clause-fits c =
    let goes =
    rw c.in-Count.is at c.in-Ok.ensures in
    count_is_below _ _ _ _ _ goes c.in_ok-number-in-Count.ensures.fits

pub returns-in_ok-number-in-Count-clause-advances :
    goal.returns-in_ok-number-in-Count-clause-advances
returns-in_ok-number-in-Count-clause-advances c =
    let goes = rw c.in-Count.is at c.in-Ok.ensures in
    count_goes_on _ _ _ _ _ _ c.requires.ready goes c.count.ensures
