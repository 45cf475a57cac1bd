use Rattle.std.proofs.Common.{◌∙◌, ◌<◌, ◌≤◌, length, drop, sym, arith}
use Rattle.bufr_fields.specs.declared.field.Subset.{Subset}
use Rattle.bufr_data.specs.Compressed.Best.{is_empty}
use Rattle.bufr_data.proofs.CompressedFacts.Rows.{all_false, all_step, all_end, rows_all}
use Rattle.bufr_data.proofs.compressed.places.have_ended.Goals as goal

pub returns-then-not-has_ended : goal.returns-then-not-has_ended
returns-then-not-has_ended c =
    let less : c.loop-other.other-index < length c.args.others.now =
    omega (arith, c.loop-other-test.true) in
    sym (rows_all is_empty c.args.place c.args.others.now
    ∙ all_false
    (λ (s : Subset). is_empty
    (drop c.args.place s.fields)) c.args.others.now c.loop-other.other-index c.other-item.result
    less c.other-item.is (sym c.has_ended.ensures ∙ c.if-not-has_ended.true))

pub loop-other-preserved : goal.loop-other-preserved
loop-other-preserved c =
    let less : c.loop-other.other-index < length c.args.others.now =
    omega (arith, c.loop-other-test.true) in
    all_step
    (λ (s : Subset). is_empty
    (drop c.args.place s.fields)) c.args.others.now c.loop-other.other-index c.other-item.result
    less c.other-item.is c.loop-other.invariant
    (sym c.has_ended.ensures ∙ c.if-not-has_ended.false)

pub returns : goal.returns
returns c =
    let done : length c.args.others.now ≤ c.loop-other.other-index =
    omega (arith, c.loop-other-test.false) in
    sym (rows_all is_empty c.args.place c.args.others.now
    ∙ all_end
    (λ (s : Subset). is_empty
    (drop c.args.place s.fields)) c.args.others.now c.loop-other.other-index done
    c.loop-other.invariant)
