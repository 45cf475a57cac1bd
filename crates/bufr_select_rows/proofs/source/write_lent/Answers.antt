-- The clause `written` of `write_lent`: the text is the field's.
use Rattle.std.proofs.Common.{◌∙◌, ap, drop, slice_get, sym}
use Rattle.csv.specs.Writing.{default_writer, field_text}
use Rattle.bufr_data.specs.Compressed.{subset_of}
use Rattle.bufr_select_rows.specs.Rows.{value_if}
use Rattle.bufr_select_rows.specs.TextCells.{shown_octets}
use Rattle.bufr_select_rows.proofs.LentFacts.{lent_shown}
use Rattle.bufr_select_rows.proofs.WrittenFacts.{text_same}
use Rattle.bufr_select_rows.proofs.source.write_lent.Goals as goal

pub returns-in-Some-clause-written : goal.returns-in-Some-clause-written
returns-in-Some-clause-written c =
    let e = c.in-Some.ensures in
    let text = c.in-Some.text in
    let found = slice_get (subset_of c.args.columns.now.columns c.args.subset).fields c.args.column in
    text_same c.write_text.result c.write_text.new.room
    (field_text default_writer (shown_octets text.octets.now))
    (field_text default_writer (value_if found)) (drop c.args.end c.args.room.now)
    (ap (field_text default_writer)
    (sym (lent_shown e.0 text.fxy text.octets.now e.1) ∙ ap value_if (sym e.2)))
    c.write_text.ensures.written
