-- Text by text from the uppermost on, until none is left.
use Rattle.std.proofs.Common.{sym, ◌∙◌, arith}
use Rattle.std.proofs.lemmas.List.{nil_from_length}
use Rattle.bufr_engines.proofs.StackFacts.{left_first, left_more, left_none}
use Rattle.bufr_engines.proofs.text_stack.merge_upper.Goals as goal

pub loop-below-init : goal.loop-below-init
loop-below-init c =
    left_first c.args.tables.now c.args.texts.items c.new-lowest.result c.new-upper.result
    c.requires c.new-lowest.ensures c.new-upper.ensures

pub merge-requires : goal.merge-requires
merge-requires c =
    let inv = c.loop-below.invariant in inv.lowest_under ∙ sym inv.upper_under

pub loop-below-preserved : goal.loop-below-preserved
loop-below-preserved c =
    left_more c.args.tables.now c.args.texts.items c.loop-below.texts.items
    c.pop.new.self.items c.loop-below.lowest c.loop-below.upper c.in-Some.below c.merge.new.self
    c.pop.result c.loop-below.invariant c.pop.ensures.items c.in-Some.is c.in_ok-merge.ensures.ok

pub returns-clause-same : goal.returns-clause-same
returns-clause-same c =
    let inv = c.loop-below.invariant in inv.lowest_under ∙ sym inv.upper_under

pub returns-clause-all : goal.returns-clause-all
returns-clause-all c =
    left_none c.args.tables.now c.args.texts.items c.loop-below.texts.items
    c.pop.new.self.items c.loop-below.lowest c.loop-below.upper c.pop.result
    c.loop-below.invariant c.pop.ensures.items c.in_default.is
    (nil_from_length c.pop.new.self.items
    (omega (arith, c.pop.new.self.ok.0, c.in_default.ensures.cases.1)))
