-- A record's fault is the fault of the file; after the last record all rows are in.
use Rattle.std.proofs.Common.{map, []}
use Rattle.csv.specs.Records.{fields_of}
use Rattle.bufr_tables.specs.ElementJoins.{with_element}
use Rattle.bufr_tables.specs.Rows.{element_row}
use Rattle.bufr_tables.specs.TableFiles.{after_records}
use Rattle.bufr_tables.proofs.ParseFacts.{fails-through, ends, goes_on, stops}
use Rattle.bufr_tables.proofs.table_b.file.of_records.Goals as goal

pub returns-then-not-branch : goal.returns-then-not-branch
returns-then-not-branch c =
    ends element_row with_element
    (after_records element_row with_element (map (λ s. s.now) c.args.names.now) c.args.places.now 2
    c.args.records.now [])
    (map (λ s. s.now) c.args.names.now) c.args.places.now c.loop-number.number
    c.loop-number.records c.next.new.self (fields_of c.next.new.row) c.loop-number.table
    c.in_ok-next.field-0 c.loop-number.invariant c.in_ok-next.ensures c.if-not-branch.true

pub returns-in_err-add_record : goal.returns-in_err-add_record
returns-in_err-add_record c =
    fails-through (λ t. t) c.from_residual-in_err-add_record.result _ _
    c.from_residual-in_err-add_record.ensures.1
    (stops element_row with_element
    (after_records element_row with_element (map (λ s. s.now) c.args.names.now) c.args.places.now 2
    c.args.records.now [])
    (map (λ s. s.now) c.args.names.now) c.args.places.now c.loop-number.number
    c.loop-number.records c.next.new.self (fields_of c.next.new.row) c.loop-number.table
    c.in_ok-next.field-0 c.in_err-add_record.field-0.0 c.loop-number.invariant c.in_ok-next.ensures
    c.if-not-branch.false c.in_err-add_record.ensures)

pub loop-number-preserved : goal.loop-number-preserved
loop-number-preserved c =
    goes_on element_row with_element
    (after_records element_row with_element (map (λ s. s.now) c.args.names.now) c.args.places.now 2
    c.args.records.now [])
    (map (λ s. s.now) c.args.names.now) c.args.places.now c.loop-number.number
    c.loop-number.records c.next.new.self (fields_of c.next.new.row) c.loop-number.table
    c.add_record.new.table c.in_ok-next.field-0 c.loop-number.invariant
    c.in_ok-next.ensures c.if-not-branch.false c.in_ok-add_record.ensures
