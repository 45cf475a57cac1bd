-- The minimum and every increment fit their bits.
use Rattle.std.proofs.Common.{◌++◌, ◌<◌, length, map, take, get_or, arith}
use Rattle.bufr_bits.specs.Bits.{bin}
use Rattle.bufr_data.specs.Compressed.Best.{increment_of}
use Rattle.bufr_data.proofs.CompressedFacts.Puts.{NumbersPut, numbers_put_of, fit_at_index, increments_push}
use Rattle.bufr_data.proofs.CompressedFacts.Puts.{put_step, put_two}
use Rattle.bufr_data.proofs.compressed.best.put_numbers.Goals.{After-fewest_bits-k}
use Rattle.bufr_data.proofs.compressed.best.put_numbers.Goals as goal

numbers_fit : (c : After-fewest_bits-k) → NumbersPut c.args.width c.args.numbers.now
    c.least_present-minimum.result c.fewest_bits-k.result
numbers_fit c =
    numbers_put_of c.args.width c.args.numbers.now c.least_present-minimum.result
    c.greatest_present.result c.saturating_sub.result c.fewest_bits-k.result c.requires.narrow
    c.requires.forms c.least_present-minimum.ensures c.greatest_present.ensures
    c.saturating_sub.ensures c.fewest_bits-k.ensures

pub loop-number-init : goal.loop-number-init
loop-number-init c =
    put_two _ _ _ _ _ c.in_ok-put.ensures.ok (rw c.from.ensures at c.in_ok-put-2.ensures.ok)

pub loop-number-preserved : goal.loop-number-preserved
loop-number-preserved c =
    let i = c.loop-number.number-index in
    let ns = c.args.numbers.now in
    let less : i < length ns = omega (arith, c.loop-number-test.true) in
    let k = c.fewest_bits-k.result in
    let minimum = c.least_present-minimum.result in
    let put = rw c.increment.ensures at c.in_ok-put-3.ensures.ok in
    put_step (bin k) (map (increment_of c.args.width minimum k) (take i ns)) _
    (increment_of c.args.width minimum k (get_or ns i 0)) c.args.sink.now
    (bin c.args.width minimum ++ bin 6 k) _ _
    (increments_push c.args.width minimum k ns i less) c.loop-number.invariant put

pub put-requires-clause-fits : goal.put-requires-clause-fits
put-requires-clause-fits c =
    let fits = numbers_fit (goal.at.put-requires-clause-fits c).After-fewest_bits-k in
    fits.below

pub put-requires-2-clause-fits : goal.put-requires-2-clause-fits
put-requires-2-clause-fits c =
    let fits = numbers_fit (goal.at.put-requires-2-clause-fits c).After-fewest_bits-k in
    omega (arith, fits.few, c.from.ensures)

pub increment-requires : goal.increment-requires
increment-requires c =
    let fits = numbers_fit (goal.at.increment-requires c).After-fewest_bits-k in
    omega (arith, fits.few)

pub put-requires-in-loop-number-clause-width : goal.put-requires-in-loop-number-clause-width
put-requires-in-loop-number-clause-width c =
    let fits = numbers_fit (goal.at.put-requires-in-loop-number-clause-width c).After-fewest_bits-k
    in
    omega (arith, fits.few)

pub put-requires-in-loop-number-clause-fits : goal.put-requires-in-loop-number-clause-fits
put-requires-in-loop-number-clause-fits c =
    let fits = numbers_fit (goal.at.put-requires-in-loop-number-clause-fits c).After-fewest_bits-k
    in
    let less : c.loop-number.number-index < length c.args.numbers.now =
    omega (arith, c.loop-number-test.true) in
    rw c.increment.ensures
    (fit_at_index _
    (increment_of c.args.width c.least_present-minimum.result c.fewest_bits-k.result)
    c.args.numbers.now c.loop-number.number-index fits.fit less)
