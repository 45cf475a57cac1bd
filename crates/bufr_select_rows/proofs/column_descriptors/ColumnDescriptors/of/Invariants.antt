-- The loop of `of`: the marks of the columns so far.
use Rattle.std.proofs.Common.{◌≡◌, length, take}
use Rattle.bufr_select_rows.proofs.AskedFacts.{AreMarks}
use Rattle.bufr_select_rows.proofs.column_descriptors.ColumnDescriptors.of.Given as goal

-- there is a mark for each descriptor, and they are those of the columns so far
abbrev pub invariant-loop-column : goal.invariant-loop-column
invariant-loop-column l = record {
  long : length l.cells.items ≡ 65536;
  at : l.index ≡ l.column-index;
  cells : AreMarks l.cells.items (take l.column-index l.columns);
}
