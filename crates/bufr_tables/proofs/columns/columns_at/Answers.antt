-- One column after another, up to the first one missing.
use Rattle.std.proofs.Common.{sym, arith}
use Rattle.bufr_tables.specs.declared.table_faults.Column.TheVariants as columns
use Rattle.bufr_tables.proofs.ColumnFacts.{columns_none, columns_more, columns_stop, columns_all}
use Rattle.bufr_tables.proofs.columns.columns_at.Goals as goal

pub loop-column-init : goal.loop-column-init
loop-column-init c = rw c.new-places.ensures.items (columns_none _ _)

pub returns-in-Err : goal.returns-in-Err
returns-in-Err c =
    columns_stop _ _ c.loop-column.column-index _ c.in-Err.fault columns.Fxy c.loop-column-test.true
    c.loop-column.invariant (sym c.in-Err.ensures)

pub loop-column-preserved : goal.loop-column-preserved
loop-column-preserved c =
    rw c.in_ok-push-in-Ok.ensures.items
    (columns_more _ _ c.loop-column.column-index _ c.in-Ok.place columns.Fxy
    c.loop-column-test.true c.loop-column.invariant (sym c.in-Ok.ensures))

pub returns : goal.returns
returns c =
    columns_all _ _ c.loop-column.column-index _ (omega arith) (omega arith) c.loop-column.invariant
