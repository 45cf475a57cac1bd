use Rattle.std.proofs.Common.{sym}
use Rattle.bufr_tables.proofs.RowFacts.{element_row-not_count}
use Rattle.bufr_tables.proofs.table_b.file.add_record.Goals as goal

pub add-requires : goal.add-requires
add-requires c = element_row-not_count _ _ (sym c.in-Some-element_row.ensures)
