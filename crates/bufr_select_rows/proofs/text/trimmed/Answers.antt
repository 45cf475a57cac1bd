-- The clause of `trimmed`: octets of the padding are cut off, until another one is last.
use Rattle.bufr_select_rows.proofs.TextFacts.{last_goes, last_stays, none_stays}
use Rattle.bufr_select_rows.proofs.text.trimmed.Goals as goal

pub returns-then-not-is_padding : goal.returns-then-not-is_padding
returns-then-not-is_padding c =
    last_stays c.loop-left.left.now c.args.octets.now c.is_padding.result c.in-len1-up.len_at_least
    c.is_padding.ensures c.if-not-is_padding.true c.loop-left.invariant

pub loop-left-preserved : goal.loop-left-preserved
loop-left-preserved c =
    last_goes c.loop-left.left.now c.args.octets.now c.is_padding.result c.in-len1-up.len_at_least
    c.is_padding.ensures c.if-not-is_padding.false c.loop-left.invariant

pub returns : goal.returns
returns c =
    none_stays c.loop-left.left.now c.args.octets.now c.in_default.len_below c.loop-left.invariant
