use Rattle.std.proofs.Common.{◌∙◌, ◌≤◌, length, ap, arith}
use Rattle.std.proofs.lemmas.List.{take_all}
use Rattle.bufr_data.specs.Compressed.Best.{present, greatest}
use Rattle.bufr_data.specs.Compressed.Places.{greatest_step}
use Rattle.bufr_data.proofs.CompressedFacts.Puts.{greatest_by, present_more}
use Rattle.bufr_data.proofs.compressed.best.greatest_present.Goals as goal

pub loop-number-preserved : goal.loop-number-preserved
loop-number-preserved c =
    c.greater-found.ensures
    ∙ present_more greatest (greatest_step c.args.width) c.args.width (greatest_by c.args.width)
    c.args.numbers.now c.loop-number.number-index _ (omega (arith, c.loop-number-test.true))
    c.loop-number.invariant

pub returns : goal.returns
returns c =
    let done : length c.args.numbers.now ≤ c.loop-number.number-index =
    omega (arith, c.loop-number-test.false) in
    c.loop-number.invariant
    ∙ ap (λ xs. greatest (present c.args.width xs))
    (take_all c.loop-number.number-index c.args.numbers.now done)
