use Rattle.std.proofs.Common.{◌≡◌, map, []}
use Rattle.bufr_tables.specs.ElementJoins.{with_element}
use Rattle.bufr_tables.specs.Rows.{element_row}
use Rattle.bufr_tables.specs.TableFiles.{after_records}
use Rattle.bufr_tables.proofs.table_b.file.of_records.Given as goal

-- the rows read and the records left add up to all records
abbrev pub invariant-loop-number : goal.invariant-loop-number
invariant-loop-number l =
    after_records element_row with_element (map (λ s. s.now) l.names) l.places 2 l.fn.records []
    ≡ after_records element_row with_element (map (λ s. s.now) l.names) l.places l.number l.records l.table
