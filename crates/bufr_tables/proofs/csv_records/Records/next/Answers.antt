-- A read takes the first of the records left.
use Rattle.csv.specs.Records.{fields_of}
use Rattle.bufr_tables.proofs.CsvFacts.{step-plain, step-left}
use Rattle.bufr_tables.proofs.csv_records.Records.next.Goals as goal

pub invariant_of-self-2 : goal.invariant_of-self-2
invariant_of-self-2 c =
    let e = c.read_byte_record.ensures in
    step-plain c.self.inside.reader c.read_byte_record.new.self c.read_byte_record.result
    (fields_of c.read_byte_record.new.row)
    c.self.invariant e.ready e.reads e.flexible e.goes e.fails e.failed e.why

pub returns : goal.returns
returns c =
    rw (← c.self.view_is)
    (step-left c.self.inside.reader c.read_byte_record.new.self c.in-Ok.found
    (fields_of c.read_byte_record.new.row) c.self.invariant
    (λ t. let f = c.in-Ok.ensures.failed t in cc) c.in-Ok.ensures.reads)
