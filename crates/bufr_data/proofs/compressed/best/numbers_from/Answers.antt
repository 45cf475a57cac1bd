use Rattle.std.proofs.Common.{◌∙◌, ◌++◌, ◌∷◌, [], ◌<◌, ◌≤◌, length, map, sym, ap, arith}
use Rattle.std.proofs.lemmas.List.{take_all}
use Rattle.bufr_fields.specs.Forms.{number_of}
use Rattle.bufr_data.specs.Compressed.Places.{rows_from, values_from}
use Rattle.bufr_data.proofs.CompressedFacts.Puts.{values_more}
use Rattle.bufr_data.proofs.compressed.best.numbers_from.Goals as goal

pub loop-other-init : goal.loop-other-init
loop-other-init c =
    c.in_ok-push.ensures.items ∙ (λ t. c.new-numbers.ensures.items t ++ c.number.ensures t ∷ [])

pub loop-other-preserved : goal.loop-other-preserved
loop-other-preserved c =
    let less : c.loop-other.other-index < length c.args.others.now =
    omega (arith, c.loop-other-test.true) in
    c.in_ok-push-2.ensures.items
    ∙ (λ t. c.loop-other.invariant t ++ c.number_at.ensures t ∷ [])
    ∙ sym (values_more number_of c.args.field.now c.args.place c.args.others.now
    c.loop-other.other-index c.other-item.result less c.other-item.is)

pub returns : goal.returns
returns c =
    let done : length c.args.others.now ≤ c.loop-other.other-index =
    omega (arith, c.loop-other-test.false) in
    c.loop-other.invariant
    ∙ ap (λ ss. map number_of (values_from c.args.field.now (rows_from c.args.place ss)))
    (take_all c.loop-other.other-index c.args.others.now done)
