use Rattle.bufr_message.specs.OwnBits.{spelt_alone}
use Rattle.bufr_message.proofs.OwnBitsFacts.{own_put, told_own}
use Rattle.std.proofs.Common.{sym}
use Rattle.bufr_message.proofs.own_bits.spelt_alone.Goals as goal

pub returns-then-not-branch : goal.returns-then-not-branch
returns-then-not-branch c =
    let r = c.args.report.now in
    let held = rw (c.in-Some.is, c.as_slice-fields.ensures) at c.in_ok-contents.ensures in
    let put =
    own_put r c.in-Some.contents.items _ _ _ held
    (λ data_bits same. rw (
      c.with_no_local-head.ensures,
      c.as_slice-descriptors.ensures,
      c.new-octets.ensures.items,
    ) at (c.in_ok-put_with_head.ensures.put r.subset data_bits (rw c.deref.ensures.value same))) in
    sym (told_own (spelt_alone r) _ _ _ put c.if-not-branch.true)

pub returns : goal.returns
returns c =
    let r = c.args.report.now in
    let held = rw (c.in-Some.is, c.as_slice-fields.ensures) at c.in_ok-contents.ensures in
    let put =
    own_put r c.in-Some.contents.items _ _ _ held
    (λ data_bits same. rw (
      c.with_no_local-head.ensures,
      c.as_slice-descriptors.ensures,
      c.new-octets.ensures.items,
    ) at (c.in_ok-put_with_head.ensures.put r.subset data_bits (rw c.deref.ensures.value same))) in
    sym (told_own (spelt_alone r) _ _ _ put c.if-not-branch.false)
