use Rattle.std.proofs.Common.{◌≡◌, true, rules}
use Rattle.bufr_message.specs.Messages.{can_be_alone}
use Rattle.bufr_message.proofs.message_view.subsets_of.Goals as goal

pub returns-then-are_few-clause-exact : goal.returns-then-are_few-clause-exact
returns-then-are_few-clause-exact c =
    let s = c.args.sections.now in
    let few = c.are_few.ensures s.compressed _ c.in_ok-subsets.ensures.stand c.if-are_few.true in
    search (rules, few)
