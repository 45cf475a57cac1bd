use Rattle.std.proofs.Common.{sym}
use Rattle.bufr_tables.proofs.FieldFacts.{get_or-field_at, get_or-field_at-none}
use Rattle.csv.specs.Records.{fields_of}
use Rattle.bufr_tables.proofs.fields.raw_field.Goals as goal

pub returns-in-Some : goal.returns-in-Some
returns-in-Some c =
    sym (get_or-field_at (fields_of c.args.row.now) c.args.i c.in-Some.field.now
    (sym c.in-Some.ensures.value))

pub returns-in-None : goal.returns-in-None
returns-in-None c =
    sym (get_or-field_at-none (fields_of c.args.row.now) c.args.i (sym c.in-None.ensures.value))
