-- A missing column is the file's fault; else the file is its rows.
use Rattle.csv.specs.Records.{fields_of}
use Rattle.bufr_tables.specs.Rows.{member_row, with_member, no_sequences, all_sequences}
use Rattle.bufr_tables.specs.TableFiles.{table_d, columns_d, records_of, after_file}
use Rattle.bufr_tables.proofs.ColumnFacts.{needs_d}
use Rattle.bufr_tables.proofs.ParseFacts.{fails-through, then-fails, start_fails}
use Rattle.bufr_tables.proofs.ParseFacts.{starts, then-maps}
use Rattle.bufr_tables.proofs.table_d.TableD.parse.Goals as goal

pub returns-in_err-places : goal.returns-in_err-places
returns-in_err-places c =
    fails-through (λ t. t) c.from_residual-in_err-places.result _
    (table_d c.args.text.now) c.from_residual-in_err-places.ensures.1
    (then-fails _
    (after_file columns_d member_row with_member no_sequences (records_of c.args.text.now)) _
    (start_fails columns_d member_row with_member no_sequences c.open-records.result
    (records_of c.args.text.now) c.header.new.records
    (fields_of c.in_ok-header.header) c.in_ok-names.names.items c.deref.result.now
    c.in_err-places.field-0.0
    c.open-records.ensures c.in_ok-header.ensures c.in_ok-names.ensures c.deref.ensures.value
    c.in_err-places.ensures))

pub returns : goal.returns
returns c =
    rw (
      starts columns_d member_row with_member no_sequences c.open-records.result
          (records_of c.args.text.now) c.header.new.records
          (fields_of c.in_ok-header.header) c.in_ok-names.names.items c.deref.result.now
          c.deref-2.result.now c.in_ok-places.places.items c.deref-3.result.now needs_d
          c.open-records.ensures c.in_ok-header.ensures c.in_ok-names.ensures c.deref.ensures.value
          c.deref-2.ensures.value c.in_ok-places.ensures c.deref-3.ensures.value,
      then-maps _ all_sequences,
    )
    c.of_records.ensures
