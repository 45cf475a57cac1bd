use Rattle.std.proofs.Common.{◌∙◌, ◌<◌, ◌≤◌, length, drop, sym, arith}
use Rattle.bufr_fields.specs.declared.field.Subset.{Subset}
use Rattle.bufr_data.specs.Compressed.Best.{begins_like}
use Rattle.bufr_data.proofs.CompressedFacts.Rows.{all_false, all_step, all_end, rows_all}
use Rattle.bufr_data.proofs.compressed.places.are_alike.Goals as goal

pub returns-then-not-is_alike : goal.returns-then-not-is_alike
returns-then-not-is_alike c =
    let less : c.loop-other.other-index < length c.args.others.now =
    omega (arith, c.loop-other-test.true) in
    sym (rows_all (begins_like c.args.field.now) c.args.place c.args.others.now
    ∙ all_false
    (λ (s : Subset). begins_like c.args.field.now
    (drop c.args.place s.fields)) c.args.others.now c.loop-other.other-index c.other-item.result
    less c.other-item.is (sym c.is_alike.ensures ∙ c.if-not-is_alike.true))

pub loop-other-preserved : goal.loop-other-preserved
loop-other-preserved c =
    let less : c.loop-other.other-index < length c.args.others.now =
    omega (arith, c.loop-other-test.true) in
    all_step
    (λ (s : Subset). begins_like c.args.field.now
    (drop c.args.place s.fields)) c.args.others.now c.loop-other.other-index c.other-item.result
    less c.other-item.is c.loop-other.invariant
    (sym c.is_alike.ensures ∙ c.if-not-is_alike.false)

pub returns : goal.returns
returns c =
    let done : length c.args.others.now ≤ c.loop-other.other-index =
    omega (arith, c.loop-other-test.false) in
    sym (rows_all (begins_like c.args.field.now) c.args.place c.args.others.now
    ∙ all_end
    (λ (s : Subset). begins_like c.args.field.now
    (drop c.args.place s.fields)) c.args.others.now c.loop-other.other-index done
    c.loop-other.invariant)
