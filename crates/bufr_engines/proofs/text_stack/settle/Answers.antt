-- Text by text, until the one below is much larger or none is left.
use Rattle.std.proofs.Common.{refl, sym, ◌∙◌}
use Rattle.bufr_engines.proofs.StackFacts.{popped_under, top_under, none_popped, put_back}
use Rattle.bufr_engines.proofs.StackFacts.{taken_under, taken_left, taken_together, put_together}
use Rattle.bufr_engines.proofs.text_stack.settle.Goals as goal

pub returns-in_default-clause-under : goal.returns-in_default-clause-under
returns-in_default-clause-under c =
    popped_under c.args.tables.now c.args.texts.now.items c.pop.new.self.items c.pop.result
    c.requires c.pop.ensures.items

pub returns-in_default-clause-ok : goal.returns-in_default-clause-ok
returns-in_default-clause-ok c =
    none_popped c.args.tables.now c.args.texts.now.items c.pop.new.self.items c.pop.result
    c.pop.ensures.items c.in_default.is

pub loop-below-init : goal.loop-below-init
loop-below-init c = record {
  under = popped_under c.args.tables.now c.args.texts.now.items c.pop.new.self.items c.pop.result
      c.requires c.pop.ensures.items;
  top_under = sym (top_under c.args.tables.now c.args.texts.now.items c.pop.new.self.items
      c.in-Some.top c.pop.result c.requires c.pop.ensures.items c.in-Some.is);
  same = refl;
}

pub merge-requires : goal.merge-requires
merge-requires c =
    taken_under _ _ _ c.loop-below.texts.items c.pop_alike.new.texts.items c.loop-below.top
    c.in-Some-pop_alike.below c.pop_alike.result c.loop-below.invariant c.pop_alike.ensures
    c.in-Some-pop_alike.is

pub loop-below-preserved : goal.loop-below-preserved
loop-below-preserved c =
    taken_together _ _ _ c.loop-below.texts.items c.pop_alike.new.texts.items c.loop-below.top
    c.in-Some-pop_alike.below c.merge.new.self c.pop_alike.result c.loop-below.invariant
    c.pop_alike.ensures c.in-Some-pop_alike.is c.in_ok-merge.ensures.ok

pub returns-in_err-merge-clause-under : goal.returns-in_err-merge-clause-under
returns-in_err-merge-clause-under c =
    taken_left _ _ _ c.loop-below.texts.items c.pop_alike.new.texts.items c.loop-below.top
    c.pop_alike.result c.loop-below.invariant c.pop_alike.ensures

pub returns-clause-ok : goal.returns-clause-ok
returns-clause-ok c =
    put_together c.args.tables.now c.pop.new.self.items c.in-Some.top c.loop-below.texts.items
    c.pop_alike.new.texts.items c.push.new.self.items c.loop-below.top c.pop_alike.result
    c.loop-below.invariant c.pop_alike.ensures c.in_default-pop_alike.is c.in_ok-push.ensures.items
    ∙ put_back c.args.tables.now c.args.texts.now.items c.pop.new.self.items c.in-Some.top
    c.pop.result c.pop.ensures.items c.in-Some.is
