-- Node by node.
use Rattle.std.proofs.Common.{sym, subst}
use Rattle.std.proofs.lemmas.List.{nil_from_length}
use Rattle.bufr_expand.specs.EvenTurns.{BeginsFields}
use Rattle.bufr_expand.specs.Trees.{tree_of, tree_within}
use Rattle.bufr_expand.proofs.RunFacts.{none_begin, one_begins}
use Rattle.bufr_expand.proofs.even_turns.fields_of.Goals as goal

pub loop-first-init : goal.loop-first-init
loop-first-init c =
    subst (λ fs. BeginsFields (tree_of c.args.nodes.now) c.args.operators.now fs
    (tree_of c.args.nodes.now)) (sym c.in_ok-fields.ensures.items)
    (none_begin (tree_of c.args.nodes.now) c.args.operators.now)

pub loop-first-preserved : goal.loop-first-preserved
loop-first-preserved c =
    let so_far = rw c.in-Some.ensures.cases.0 at c.loop-first.invariant in
    one_begins _ _ _ c.args.operators.now c.loop-first.fields.items _ c.in-Some-field_of.field
    c.in_ok-push.ensures.items so_far (c.in-Some-field_of.ensures c.in-Some.behind.now)

pub returns : goal.returns
unfolding tree_within
returns c =
    subst (λ ns. BeginsFields (tree_of c.args.nodes.now) c.args.operators.now
    c.loop-first.fields.items (tree_of ns)) (nil_from_length _ c.in_default.ensures.cases)
    c.loop-first.invariant
