-- The clause `written` of `write_row`: the fields, from the last to the first.
use Rattle.std.proofs.Common.{◌≡◌, ◌∙◌, ◌-◌, ◌++◌, arith, drop, length, refl, sym}
use Rattle.csv.specs.Writing.{default_writer, field_text}
use Rattle.bufr_select_rows.specs.Cells.{row_of, shown}
use Rattle.bufr_select_rows.proofs.RowFacts.{row_before, some_room}
use Rattle.bufr_select_rows.proofs.WrittenFacts.{some_then}
use Rattle.bufr_select_rows.proofs.row_line.write_row.Goals as goal

pub returns-clause-written : goal.returns-clause-written
returns-clause-written c =
    let room = c.args.room.now in
    let some = some_room (length room)
    (sym c.is_empty-else-is_empty.ensures ∙ c.if-is_empty-2.false) in
    some_then c.write_to.result
    (λ begin. drop begin c.write_to.new.room
    ≡ field_text default_writer c.shown.result.now ++ drop c.in_ok-start.start c.write_others.new.room)
    (λ begin. drop begin c.write_to.new.room ≡ row_of c.args.cells.now)
    (λ begin written. row_before shown c.args.cells.now c.first-item.result c.shown.result.now room _
    c.write_others.new.room c.write_to.new.room (length room - 1) c.in_ok-start.start begin
    c.in-len1-up.len_at_least c.first-item.is (sym c.is_empty.ensures ∙ c.if-is_empty.false)
    c.shown.ensures (omega (arith, some)) refl c.in_ok-start.ensures.written written)
    c.write_to.ensures.written
