use Rattle.std.proofs.Common.{◌∙◌, ◌<◌, length, arith}
use Rattle.std.proofs.lemmas.Result.{err_from_is_err_and}
use Rattle.bufr_data.proofs.CompressedFacts.Puts.{each_next, each_fails, each_end}
use Rattle.bufr_data.proofs.compressed.write.fit_each.Goals as goal

pub returns-in_err-fit_fields : goal.returns-in_err-fit_fields
returns-in_err-fit_fields c =
    let less : c.loop-index.index < length c.args.subsets.now =
    omega (arith, c.loop-index-test.true) in
    let p = err_from_is_err_and c.from_residual.result c.from_residual.ensures.1 in
    let fails = rw c.as_slice.ensures at c.in_err-fit_fields.ensures in
    rw (p.1, p.2)
    (each_fails c.args.template.now c.loop-index.index c.args.subsets.now
    c.index-subsets-index.result _ less c.index-subsets-index.is fails c.loop-index.invariant)

pub loop-index-preserved : goal.loop-index-preserved
loop-index-preserved c =
    let less : c.loop-index.index < length c.args.subsets.now =
    omega (arith, c.loop-index-test.true) in
    let fits = rw c.as_slice.ensures at c.in_ok-fit_fields.ensures in
    c.loop-index.invariant
    ∙ each_next c.args.template.now c.loop-index.index _ c.args.subsets.now
    c.index-subsets-index.result less c.index-subsets-index.is fits

pub returns : goal.returns
returns c =
    c.loop-index.invariant
    ∙ each_end c.args.template.now c.loop-index.index c.args.subsets.now c.loop-index-test.false
