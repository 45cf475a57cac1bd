use Rattle.std.proofs.Common.{◌∙◌, ◌≤◌, length, ap, arith}
use Rattle.std.proofs.lemmas.List.{take_all}
use Rattle.bufr_data.specs.Compressed.Best.{present}
use Rattle.bufr_data.specs.Compressed.Places.{least_of, least_step}
use Rattle.bufr_data.proofs.CompressedFacts.Puts.{least_by, least_or, present_more}
use Rattle.bufr_data.proofs.compressed.best.least_present.Goals as goal

pub loop-number-preserved : goal.loop-number-preserved
loop-number-preserved c =
    c.lesser-found.ensures
    ∙ present_more least_of (least_step c.args.width) c.args.width (least_by c.args.width)
    c.args.numbers.now c.loop-number.number-index _ (omega (arith, c.loop-number-test.true))
    c.loop-number.invariant

pub returns : goal.returns
returns c =
    let done : length c.args.numbers.now ≤ c.loop-number.number-index =
    omega (arith, c.loop-number-test.false) in
    let whole = take_all c.loop-number.number-index c.args.numbers.now done in
    let found = c.loop-number.invariant ∙ ap (λ xs. least_of (present c.args.width xs)) whole in
    rw (c.unwrap_or.ensures, found) (least_or (present c.args.width c.args.numbers.now))
