use Rattle.std.proofs.Common.{◌≡◌, true, ◌∙◌, sym, ap, rules}
use Rattle.bufr_bits.specs.Ends.{left}
use Rattle.bufr_data.specs.Data.{subsets_in}
use Rattle.bufr_message.specs.Messages.{can_be_alone}
use Rattle.bufr_message.proofs.ViewFacts.{when_true, judged_seen}
use Rattle.bufr_message.proofs.message_view.check_in.Goals as goal

pub returns-then-are_few-clause-exact : goal.returns-then-are_few-clause-exact
returns-then-are_few-clause-exact c =
    let s = c.sections.inside in
    let tree = c.args.kept.now.template in
    let front = ap left c.new-reader.ensures in
    let found = when_true _ c.if-passed.true c.in_ok-passed.ensures.passed in
    let is = ap (subsets_in tree s.compressed s.count) (sym front) ∙ found.1 in
    let short = c.are_few.ensures s.compressed found.0 (tree, s.count, _, is) c.if-are_few.true in
    let few : can_be_alone c.args.sections.now.descriptors found.0 ≡ true =
    search (rules, short) in
    rw c.left-left.ensures.bits
    (judged_seen c.data_hold_subsets.ensures.read tree _ c.args.sections.now found.0 _
    c.sections.view_is is few)
