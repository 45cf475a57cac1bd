use Rattle.csv.specs.Reading.{strip_bom}
use Rattle.bufr_tables.proofs.CsvFacts.{all-records}
use Rattle.bufr_tables.proofs.csv_records.Records.open.Goals as goal

pub returns : goal.returns
returns c =
    rw (c.from_reader-reader.ensures.state, c.from_reader-reader.ensures.source)
    (all-records (strip_bom c.args.text.now))
