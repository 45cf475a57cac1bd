-- Subset by subset, until one does not fit or none is left.
use Rattle.std.proofs.Common.{◌<◌, length, arith}
use Rattle.std.proofs.lemmas.Result.{err_from_is_err_and}
use Rattle.bufr_expand.specs.Courses.{course}
use Rattle.bufr_fields.specs.declared.field.Subset.{Subset}
use Rattle.bufr_data.specs.Plain.{plain}
use Rattle.bufr_data.proofs.PlainFacts.Writes.{subsets_step, subsets_fail, subsets_end, bits_step}
use Rattle.bufr_data.proofs.PlainFacts.Writes.{counted_forms}
use Rattle.bufr_data.proofs.plain.write.write_each.Goals as goal

pub returns-in_err-used-clause-err : goal.returns-in_err-used-clause-err
returns-in_err-used-clause-err c =
    let p = err_from_is_err_and c.from_residual.result c.from_residual.ensures.1 in
    let fails = rw c.as_slice-fields.ensures at c.in_err-used.ensures in
    rw (p.1, p.2)
    (subsets_fail
    (course c.args.template.now) c.loop-index.index c.loop-index.used c.args.subsets.now
    c.index-subsets-index.result _ _
    (omega arith) c.index-subsets-index.is c.loop-index.invariant.so_far fails)

pub loop-index-preserved : goal.loop-index-preserved
loop-index-preserved c =
    let within : c.loop-index.index < length c.args.subsets.now = omega arith in
    let fits = rw c.as_slice-fields.ensures at c.in_ok-used.ensures in
    let put = rw c.as_slice-fields.ensures at c.in_ok-put_fields.ensures.put in
    record {
      so_far =
          subsets_step
          (course c.args.template.now) c.loop-index.index c.loop-index.used _ c.args.subsets.now
          c.index-subsets-index.result _ within c.index-subsets-index.is
          c.loop-index.invariant.so_far fits;
      put = bits_step (λ (s : Subset). plain s.fields) c.loop-index.index c.args.subsets.now
          c.index-subsets-index.result _ _ _ within c.index-subsets-index.is
          c.loop-index.invariant.put put;
    }

pub returns-clause-ok : goal.returns-clause-ok
returns-clause-ok c =
    subsets_end
    (course c.args.template.now) c.loop-index.index c.loop-index.used c.args.subsets.now _
    (omega arith) c.loop-index.invariant.so_far

pub put_fields-requires : goal.put_fields-requires
put_fields-requires c =
    let fits =
    c.in_ok-used.ensures in
    counted_forms _ 1 (course c.args.template.now c.loop-index.used) _ _ fits
