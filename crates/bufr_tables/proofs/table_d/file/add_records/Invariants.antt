use Rattle.std.proofs.Common.{◌≡◌, map}
use Rattle.bufr_tables.specs.Rows.{member_row, with_member}
use Rattle.bufr_tables.specs.TableFiles.{after_records}
use Rattle.bufr_tables.proofs.table_d.file.add_records.Given as goal

-- the rows read and the records left add up to all records
abbrev pub invariant-loop-number : goal.invariant-loop-number
invariant-loop-number l =
    after_records member_row with_member (map (λ s. s.now) l.names) l.places 2 l.fn.records l.fn.rows
    ≡ after_records member_row with_member (map (λ s. s.now) l.names) l.places l.number l.records l.rows
