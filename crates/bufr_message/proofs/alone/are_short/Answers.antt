-- One subset that does not fit decides.
use Rattle.std.proofs.Common.{◌≤◌, Some, ap, sym, ◌∙◌, length, arith}
use Rattle.std.proofs.lemmas.List.{take_all}
use Rattle.std.proofs.lemmas.Option.{slice_get-get_or}
use Rattle.bufr_message.specs.Messages.{can_be_alone}
use Rattle.bufr_message.proofs.ViewFacts.{one_more_short, one_too_long}
use Rattle.bufr_message.proofs.alone.are_short.Goals as goal

pub returns-then-not-is_short : goal.returns-then-not-is_short
returns-then-not-is_short c =
    let subsets = c.args.subsets.now in
    let i = c.loop-subset.subset-index in
    let s = c.subset-item.result in
    sym (one_too_long c.args.descriptors.now subsets i s
    (slice_get-get_or subsets i s (omega (arith, c.loop-subset-test.true))
    ∙ ap Some (sym c.subset-item.is))
    (sym c.is_short.ensures ∙ c.if-not-is_short.true))

pub loop-subset-preserved : goal.loop-subset-preserved
loop-subset-preserved c =
    let subsets = c.args.subsets.now in
    let i = c.loop-subset.subset-index in
    let s = c.subset-item.result in
    one_more_short c.args.descriptors.now subsets i s (omega (arith, c.loop-subset-test.true))
    (slice_get-get_or subsets i s (omega (arith, c.loop-subset-test.true))
    ∙ ap Some (sym c.subset-item.is))
    c.loop-subset.invariant (sym c.is_short.ensures ∙ c.if-not-is_short.false)

pub returns : goal.returns
returns c =
    let subsets = c.args.subsets.now in
    let done : length subsets ≤ c.loop-subset.subset-index =
    omega (arith, c.loop-subset-test.false) in
    sym (ap (can_be_alone c.args.descriptors.now) (sym (take_all c.loop-subset.subset-index subsets done))
    ∙ c.loop-subset.invariant)
