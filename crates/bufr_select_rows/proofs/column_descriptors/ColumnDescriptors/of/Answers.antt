-- The clause of `of`: the marks of the columns, and then that of `each`.
use Rattle.std.proofs.Common.{◌∙◌, subst, arith}
use Rattle.std.proofs.lemmas.List.{take_all}
use Rattle.bufr_select_rows.proofs.AskedFacts.{AreMarks, columns_kept, columns_next}
use Rattle.bufr_select_rows.proofs.column_descriptors.ColumnDescriptors.of.Goals as goal

pub loop-column-preserved : goal.loop-column-preserved
loop-column-preserved c = record {
  long = c.mark_column.ensures.long ∙ c.loop-column.invariant.long;
  at = omega (arith, c.loop-column.invariant.at);
  cells = columns_next c.loop-column.cells.items c.mark_column.new.cells.items c.args.columns.now
      c.loop-column.column-index c.loop-column.index c.column-item.result c.loop-column-test.true
      c.column-item.is c.loop-column.invariant.at c.mark_column.ensures.cells
      c.loop-column.invariant.cells;
}

pub returns : goal.returns
returns c =
    let are = subst (AreMarks c.loop-column.cells.items)
    (take_all c.loop-column.column-index c.args.columns.now c.loop-column-test.false)
    c.loop-column.invariant.cells in (
      (
        columns_kept c.loop-column.cells.items c.mark_each.new.cells.items
            c.mark_each.ensures.kept c.args.columns.now are.covers,
        c.mark_each.ensures.covers,
      ),
      λ d i is. (are.named d i (c.mark_each.ensures.named d i is)).1,
    )
