-- The clause `written` of `write_turn`: the cells, from the last to the first.
use Rattle.std.proofs.Common.{◌≡◌, ◌∙◌, ◌-◌, ◌++◌, ap, arith, drop, length, refl, sym}
use Rattle.csv.specs.Writing.{default_writer, field_text}
use Rattle.bufr_data.specs.Turns.{numbered}
use Rattle.bufr_select_rows.specs.Turns.{sourced, sourced_row, turn_text}
use Rattle.bufr_select_rows.proofs.RowFacts.{row_first, some_room}
use Rattle.bufr_select_rows.proofs.TurnFacts.{first_source}
use Rattle.bufr_select_rows.proofs.WrittenFacts.{some_then}
use Rattle.bufr_select_rows.proofs.turn.write_turn.Goals as goal

-- the other cells have their sources
pub write_turn_cells-requires-clause-sources : goal.write_turn_cells-requires-clause-sources
write_turn_cells-requires-clause-sources c =
    let a = c.args in
    (first_source a.fields.now a.cells.now c.in-Some.others.now a.sources.now
    c.in-Some-split_first.other_sources.now c.in-Some.first.now c.in-Some-split_first.source.now c.requires
    c.in-Some.ensures.cases.0 c.in-Some-split_first.ensures.cases.0).1

pub returns-clause-written : goal.returns-clause-written
returns-clause-written c =
    let a = c.args in
    let room = a.room.now in
    let turn = numbered a.fields.now a.numbers.now in
    let first = c.in-Some.first.now in
    let source = (first_source a.fields.now a.cells.now c.in-Some.others.now a.sources.now
    c.in-Some-split_first.other_sources.now first c.in-Some-split_first.source.now c.requires
    c.in-Some.ensures.cases.0 c.in-Some-split_first.ensures.cases.0).0 in
    let some = some_room (length room)
    (sym c.is_empty-else-is_empty.ensures ∙ c.if-is_empty-2.false) in
    some_then c.write_turn_cell.result
    (λ begin. drop begin c.write_turn_cell.new.room
    ≡ field_text default_writer (turn_text turn first c.in-Some-split_first.source.now)
    ++ drop c.in_ok-start.start c.write_turn_cells.new.room)
    (λ begin. drop begin c.write_turn_cell.new.room
    ≡ sourced_row a.fields.now a.numbers.now a.cells.now)
    (λ begin written. row_first (sourced a.fields.now a.numbers.now) a.cells.now first
    c.in-Some.others.now room _ c.write_turn_cells.new.room c.write_turn_cell.new.room (length room - 1)
    c.in_ok-start.start begin c.in-Some.ensures.cases.0 (sym c.is_empty.ensures ∙ c.if-is_empty.false)
    (omega (arith, some)) refl c.in_ok-start.ensures.written
    (written ∙ ap
    (λ x. field_text default_writer (turn_text turn first x)
    ++ drop c.in_ok-start.start c.write_turn_cells.new.room)
    source))
    c.write_turn_cell.ensures.written
