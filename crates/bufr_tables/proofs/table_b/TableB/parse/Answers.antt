-- A missing column is the file's fault; else the file is its rows.
use Rattle.std.proofs.Common.{[]}
use Rattle.csv.specs.Records.{fields_of}
use Rattle.bufr_tables.specs.ElementJoins.{with_element}
use Rattle.bufr_tables.specs.Rows.{element_row}
use Rattle.bufr_tables.specs.TableFiles.{table_b, columns_b, records_of}
use Rattle.bufr_tables.proofs.ColumnFacts.{needs_b}
use Rattle.bufr_tables.proofs.ParseFacts.{fails-through, start_fails, starts}
use Rattle.bufr_tables.proofs.table_b.TableB.parse.Goals as goal

pub returns-in_err-places : goal.returns-in_err-places
returns-in_err-places c =
    fails-through (λ t. t) c.from_residual-in_err-places.result _
    (table_b c.args.text.now) c.from_residual-in_err-places.ensures.1
    (start_fails columns_b element_row with_element [] c.open-records.result
    (records_of c.args.text.now) c.header.new.records
    (fields_of c.in_ok-header.header) c.in_ok-names.names.items c.deref.result.now
    c.in_err-places.field-0.0
    c.open-records.ensures c.in_ok-header.ensures c.in_ok-names.ensures c.deref.ensures.value
    c.in_err-places.ensures)

pub returns : goal.returns
returns c =
    rw (starts columns_b element_row with_element [] c.open-records.result
    (records_of c.args.text.now) c.header.new.records
    (fields_of c.in_ok-header.header) c.in_ok-names.names.items c.deref.result.now
    c.deref-2.result.now c.in_ok-places.places.items c.deref-3.result.now needs_b
    c.open-records.ensures c.in_ok-header.ensures c.in_ok-names.ensures c.deref.ensures.value
    c.deref-2.ensures.value c.in_ok-places.ensures c.deref-3.ensures.value)
    c.of_records.ensures
