-- Only the first field can begin with a byte order mark.
use Rattle.std.proofs.Common.{◌∙◌, sym, ap}
use Rattle.bufr_tables.proofs.FieldFacts.{used_fields-first, used_fields-later}
use Rattle.csv.specs.Records.{fields_of}
use Rattle.csv.specs.Reading.{strip_bom}
use Rattle.bufr_tables.specs.Fields.{without_spaces}
use Rattle.bufr_tables.proofs.fields.used_field.Goals as goal

pub returns-then-i-eq0 : goal.returns-then-i-eq0
returns-then-i-eq0 c =
    rw c.if-i-eq0.true
    (c.without_spaces.ensures
    ∙ ap without_spaces
    (c.without_mark.ensures ∙ ap strip_bom (c.raw_field-field.ensures ∙ rw c.if-i-eq0.true))
    ∙ sym (used_fields-first (fields_of c.args.row.now)))

pub returns : goal.returns
returns c =
    c.without_spaces-2.ensures ∙ ap without_spaces c.raw_field-field.ensures
    ∙ sym (used_fields-later (fields_of c.args.row.now) c.args.i c.if-i-eq0.false)
