-- The list of the marked descriptors below an index, one index further on.
use Rattle.std.proofs.Common.{ap, refl, sym, subst, ◌∙◌}
use Rattle.bufr_select_rows.proofs.ChosenFacts.{ListsBelow, below_pushed, below_unmarked, lists_all}
use Rattle.bufr_select_rows.proofs.column_descriptors.listed_in.Goals.{then-cells-index-ne0+in_ok-push, else-cells-index-ne0}
use Rattle.bufr_select_rows.proofs.column_descriptors.listed_in.Goals as goal

pub loop-index-preserved : goal.loop-index-preserved
loop-index-preserved c =
    let cells = c.args.cells.now in
    let i = c.loop-index.index in
    elim c.if-cells-index-ne0.branch [
      | then-cells-index-ne0+in_ok-push w ↦
          below_pushed cells c.loop-index.listed.items c.if-cells-index-ne0.listed.items i i
          (ap (λ v. v.items) w.listed-is ∙ w.in_ok-push.ensures.items) refl c.loop-index.invariant
      | else-cells-index-ne0 w ↦
          below_unmarked cells c.if-cells-index-ne0.listed.items i w.if-cells-index-ne0.false
          (subst (λ v. ListsBelow cells i v.items) (sym w.listed-is) c.loop-index.invariant)
    ]

pub returns : goal.returns
returns c =
    lists_all c.args.cells.now c.loop-index.listed.items c.loop-index.index c.loop-index-test.false
    c.loop-index.invariant
