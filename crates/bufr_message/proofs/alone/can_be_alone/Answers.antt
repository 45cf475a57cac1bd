-- A subset that does not fit decides.
use Rattle.std.proofs.Common.{◌<◌, length, ◌∙◌, sym, arith}
use Rattle.bufr_message.proofs.ViewFacts.{one_more_short, one_too_long}
use Rattle.bufr_message.proofs.alone.can_be_alone.Goals as goal

pub returns-then-not-is_short : goal.returns-then-not-is_short
returns-then-not-is_short c =
    sym (one_too_long c.args.descriptors.now c.args.subsets.now c.loop-index.index
    c.in_ok-subset.subset c.in_ok-subset.ensures (sym c.is_short.ensures ∙ c.if-not-is_short.true))

pub loop-index-preserved : goal.loop-index-preserved
loop-index-preserved c =
    let below : c.loop-index.index < length c.args.subsets.now =
    omega (arith, c.loop-index-test.true, c.count-index-end.ensures) in
    one_more_short c.args.descriptors.now c.args.subsets.now c.loop-index.index
    c.in_ok-subset.subset below c.in_ok-subset.ensures c.loop-index.invariant
    (sym c.is_short.ensures ∙ c.if-not-is_short.false)
