use Rattle.std.proofs.Common.{◌∙◌}
use Rattle.bufr_message.proofs.ViewFacts.{one_more_built}
use Rattle.bufr_message.proofs.message_view.all_subsets.Goals as goal

pub loop-index-preserved : goal.loop-index-preserved
loop-index-preserved c =
    c.in_ok-push.ensures.items
    ∙ one_more_built c.args.subsets.now c.loop-index.built.items c.loop-index.index
    c.in_ok-subset.field-0 c.in_ok-subset.ensures c.loop-index.invariant
