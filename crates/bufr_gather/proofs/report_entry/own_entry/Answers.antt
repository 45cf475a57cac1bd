use Rattle.std.proofs.Common.{arith}
use Rattle.bufr_gather.proofs.ReportFacts.{none_of_other, entry_of_own, entry_marked, subset_there}
use Rattle.bufr_gather.proofs.report_entry.own_entry.Goals as goal

pub returns-then-not-branch : goal.returns-then-not-branch
returns-then-not-branch c =
    λ tables is spells.
    none_of_other c.written_messages_are_spelt.ensures.only c.canonical_messages_are_own.ensures
    c.reports_have_canonical_messages.ensures tables c.args.octets.now c.args.view.now
    _ is spells c.requires c.in_ok-is_own.ensures c.if-not-branch.true

pub returns : goal.returns
returns c =
    let there =
    subset_there c.args.view.now.message.subsets 0 (omega (arith, c.requires)) in
    λ tables is spells.
    entry_of_own c.written_messages_are_spelt.ensures.only c.canonical_messages_are_own.ensures
    c.reports_have_canonical_messages.ensures tables c.args.octets.now c.args.view.now
    _ _ _ is spells
    c.requires c.in_ok-is_own.ensures c.if-not-branch.false there.1
    (entry_marked c.args.view.now.message there.0 c.head.result.now c.of_head-head.result
    c.args.octets.now c.in_ok-mark.mark c.head.ensures c.of_head-head.ensures
    (c.in_ok-mark.ensures there.0 there.1))
