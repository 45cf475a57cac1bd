use Rattle.std.proofs.Common.{◌∙◌, ◌<◌, ◌≤◌, length, drop, sym, arith}
use Rattle.bufr_fields.specs.declared.field.Subset.{Subset}
use Rattle.bufr_data.specs.Compressed.Best.{first_raw}
use Rattle.bufr_data.specs.Compressed.Reading.{same_raw}
use Rattle.bufr_data.proofs.CompressedFacts.Rows.{all_false, all_step, all_end, values_all}
use Rattle.bufr_data.proofs.compressed.places.are_equal.Goals as goal

pub returns-then-not-has_raw : goal.returns-then-not-has_raw
returns-then-not-has_raw c =
    let less : c.loop-other.other-index < length c.args.others.now =
    omega (arith, c.loop-other-test.true) in
    sym (values_all (λ w. same_raw w c.args.raw.now) c.args.place c.args.others.now
    ∙ all_false
    (λ (s : Subset). same_raw
    (first_raw
    (drop c.args.place s.fields)) c.args.raw.now) c.args.others.now c.loop-other.other-index
    c.other-item.result less c.other-item.is (sym c.has_raw.ensures ∙ c.if-not-has_raw.true))

pub loop-other-preserved : goal.loop-other-preserved
loop-other-preserved c =
    let less : c.loop-other.other-index < length c.args.others.now =
    omega (arith, c.loop-other-test.true) in
    all_step
    (λ (s : Subset). same_raw
    (first_raw
    (drop c.args.place s.fields)) c.args.raw.now) c.args.others.now c.loop-other.other-index
    c.other-item.result less c.other-item.is c.loop-other.invariant
    (sym c.has_raw.ensures ∙ c.if-not-has_raw.false)

pub returns : goal.returns
returns c =
    let done : length c.args.others.now ≤ c.loop-other.other-index =
    omega (arith, c.loop-other-test.false) in
    sym (values_all (λ w. same_raw w c.args.raw.now) c.args.place c.args.others.now
    ∙ all_end
    (λ (s : Subset). same_raw
    (first_raw
    (drop c.args.place s.fields)) c.args.raw.now) c.args.others.now c.loop-other.other-index
    done c.loop-other.invariant)
