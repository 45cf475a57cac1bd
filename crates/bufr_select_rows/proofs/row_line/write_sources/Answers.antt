-- The clause `written` of `write_sources`: the cells, from the last to the first.
use Rattle.std.proofs.Common.{◌≡◌, ◌∙◌, ◌-◌, ◌++◌, arith, drop, length, refl, sym}
use Rattle.csv.specs.Writing.{default_writer, field_text}
use Rattle.bufr_data.specs.Compressed.{subset_of}
use Rattle.bufr_select_rows.specs.Rows.{origin}
use Rattle.bufr_select_rows.specs.Sources.{source_row, source_text}
use Rattle.bufr_select_rows.proofs.RowFacts.{row_first, some_room}
use Rattle.bufr_select_rows.proofs.WrittenFacts.{some_then}
use Rattle.bufr_select_rows.proofs.row_line.write_sources.Goals as goal

pub returns-clause-written : goal.returns-clause-written
returns-clause-written c =
    let a = c.args in
    let room = a.room.now in
    let text = source_text (origin a.from.now) (subset_of a.columns.now.columns a.subset).fields in
    let first = c.in-Some.first.now in
    let some = some_room (length room)
    (sym c.is_empty-else-is_empty.ensures ∙ c.if-is_empty-2.false) in
    some_then c.write_cell.result
    (λ begin. drop begin c.write_cell.new.room
    ≡ field_text default_writer (text first) ++ drop c.in_ok-start.start c.write_cells.new.room)
    (λ begin. drop begin c.write_cell.new.room
    ≡ source_row a.sources.now (origin a.from.now) a.columns.now.columns a.subset)
    (λ begin written. row_first text a.sources.now first c.in-Some.others.now room _
    c.write_cells.new.room c.write_cell.new.room (length room - 1) c.in_ok-start.start begin
    c.in-Some.ensures.cases.0 (sym c.is_empty.ensures ∙ c.if-is_empty.false)
    (omega (arith, some)) refl c.in_ok-start.ensures.written written)
    c.write_cell.ensures.written
