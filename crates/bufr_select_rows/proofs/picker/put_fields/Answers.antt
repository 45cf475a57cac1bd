-- Field by field, until none is left.
use Rattle.std.proofs.Common.{◌≡◌, List, Some, None, ◌∙◌, map, refl, sym, ap, subst}
use Rattle.bufr_fields.specs.Values.{as_field}
use Rattle.bufr_io.specs.PassingLaws.{passed}
use Rattle.bufr_select_rows.specs.Asks.{IsSetOf, flagged}
use Rattle.bufr_select_rows.specs.Cells.{due, ended, opens_at_once, rows_left}
use Rattle.bufr_select_rows.specs.CellLaws.{columns_after}
use Rattle.bufr_select_rows.specs.declared.cell.Cell.{Cell}
use Rattle.bufr_io.specs.HeldTexts.{PutsOrStops}
use Rattle.bufr_io.specs.HeldLaws.{PutsSome, some_first, some_last, some_next}
use Rattle.bufr_io.specs.HeldLaws.{some_ran_out, some_stops}
use Rattle.bufr_select_rows.proofs.PickedFacts.{at_once, field_due, field_next, rows_last, some_noted}
use Rattle.bufr_select_rows.proofs.TurnFacts.{after_turns, turns_stopped}
use Rattle.bufr_select_rows.proofs.picker.put_fields.Goals as goal

-- at first no field was taken
pub fields-init : goal.fields-init
fields-init g c =
    let a = c.args in
    let whole = rows_left a.each a.cells.now (opens_at_once a.each) (g.P.SubsetFields.left a.fields.now) in
    let w = g.W.Sink.writing a.writer.now in
    record {
      rows = subst (λ b. PutsSome whole (rows_left a.each a.cells.now b (g.P.SubsetFields.left a.fields.now)) a.rows.now w
          a.rows.now w)
          (at_once a.each c.is_none-in_span.result c.is_none-in_span.ensures)
          (some_first whole a.rows.now w c.requires.works);
      columns = refl;
    }

-- putting the row of a span before a number stopped
pub returns-in_err-take_number-clause-puts :
    goal.returns-in_err-take_number-clause-puts
returns-in_err-take_number-clause-puts g c =
    let a = c.args in
    let inv = c.fields.invariant in
    let field = as_field c.in-Some.number in
    let found = c.in-Some.ensures.found in
    let cells = c.pick_unnoted.new.cells in
    let covers = subst (IsSetOf a.asked.now a.each) (sym (found.1.1 ∙ inv.columns)) c.requires.covers in
    let whole = rows_left a.each a.cells.now (opens_at_once a.each) (g.P.SubsetFields.left a.fields.now) in
    let left = rows_left a.each cells c.fields.in_span found.0 in
    let here = due a.each c.fields.in_span cells field in
    let rest = field_due (flagged a.asked.now) a.each cells c.fields.in_span field
    found.0 (g.P.SubsetFields.left c.pick_unnoted.new.fields) covers.0 found.2 in
    passed
    (PutsOrStops whole a.rows.now (g.W.Sink.writing a.writer.now) c.take_number.new.rows
    (g.W.Sink.writing c.take_number.new.writer))
    c.from_residual.result c.in_err-take_number.field-0.0 c.from_residual.ensures.1
    (some_stops whole left here rest.0 a.rows.now c.fields.rows c.take_number.new.rows
    (g.W.Sink.writing a.writer.now) (g.W.Sink.writing c.fields.writer)
    (g.W.Sink.writing c.take_number.new.writer) c.in_err-take_number.field-0.0 (some_noted a.each c.fields.in_span c.fields.cells (g.P.SubsetFields.left c.fields.fields) cells found.0
    whole a.rows.now c.fields.rows (g.W.Sink.writing a.writer.now) (g.W.Sink.writing c.fields.writer) found.1 inv.rows)
    rest.1 c.in_err-take_number.ensures.puts)

-- one number more was taken
pub fields-preserved-in-Some : goal.fields-preserved-in-Some
fields-preserved-in-Some g c =
    let a = c.args in
    let inv = c.fields.invariant in
    let field = as_field c.in-Some.number in
    let found = c.in-Some.ensures.found in
    let cells = c.pick_unnoted.new.cells in
    let covers = subst (IsSetOf a.asked.now a.each) (sym (found.1.1 ∙ inv.columns)) c.requires.covers in
    let whole = rows_left a.each a.cells.now (opens_at_once a.each) (g.P.SubsetFields.left a.fields.now) in
    let left = rows_left a.each cells c.fields.in_span found.0 in
    let here = due a.each c.fields.in_span cells field in
    let e = c.in_ok-take_number.ensures in
    record {
      rows = some_next whole left here _ a.rows.now c.fields.rows c.take_number.new.rows
          (g.W.Sink.writing a.writer.now) (g.W.Sink.writing c.fields.writer)
          (g.W.Sink.writing c.take_number.new.writer) (some_noted a.each c.fields.in_span c.fields.cells (g.P.SubsetFields.left c.fields.fields) cells found.0
          whole a.rows.now c.fields.rows (g.W.Sink.writing a.writer.now) (g.W.Sink.writing c.fields.writer) found.1 inv.rows)
          (field_next (flagged a.asked.now) a.each cells c.take_number.new.cells
          c.fields.in_span c.is_open_after_number-in_span.result field found.0
          (g.P.SubsetFields.left c.pick_unnoted.new.fields) covers.0 found.2 e.cells c.is_open_after_number-in_span.ensures)
          e.puts e.works;
      columns = ap (λ (cells : List Cell). map (λ cell. cell.column) cells) e.cells
          ∙ columns_after a.each c.fields.in_span cells field ∙ found.1.1 ∙ inv.columns;
    }

-- putting the rows of turns stopped
pub returns-in_err-put_turns-clause-puts : goal.returns-in_err-put_turns-clause-puts
returns-in_err-put_turns-clause-puts g c =
    let a = c.args in
    let inv = c.fields.invariant in
    let skipped = c.in_default.ensures.others in
    let covers = subst (IsSetOf a.asked.now a.each) (sym (skipped.1.1 ∙ inv.columns)) c.requires.covers in
    let whole = rows_left a.each a.cells.now (opens_at_once a.each) (g.P.SubsetFields.left a.fields.now) in
    let e = c.in_err-put_turns.field-0.0 in
    passed
    (PutsOrStops whole a.rows.now (g.W.Sink.writing a.writer.now) c.put_turns.new.rows
    (g.W.Sink.writing c.put_turns.new.writer))
    c.from_residual-in_err-put_turns.result e c.from_residual-in_err-put_turns.ensures.1
    (turns_stopped (flagged a.asked.now) a.each c.fields.in_span c.fields.cells
    c.pick_unnoted.new.cells (g.P.SubsetFields.left c.fields.fields) skipped.0
    (g.P.SubsetFields.left c.pick_unnoted.new.fields) whole
    (rows_left a.each c.put_turns.new.cells c.put_turns.new.in_span
    (g.P.SubsetFields.left c.put_turns.new.fields))
    a.rows.now c.fields.rows c.put_turns.new.rows (g.W.Sink.writing a.writer.now)
    (g.W.Sink.writing c.fields.writer) (g.W.Sink.writing c.put_turns.new.writer) e covers.0 inv.rows
    skipped.1 skipped.2 c.in_err-put_turns.ensures.puts)

-- the set knows the cells
pub put_turns-requires : goal.put_turns-requires
put_turns-requires g c =
    let covers = subst (IsSetOf c.args.asked.now c.args.each)
    (sym (c.in_default.ensures.others.1.1 ∙ c.fields.invariant.columns)) c.requires.covers in
    λ k. ((refl, tt), (c.fields.invariant.rows.works, covers))

-- putting the row of a span stopped
pub returns-in_err-take_field-in-Ok-Some-clause-puts :
    goal.returns-in_err-take_field-in-Ok-Some-clause-puts
returns-in_err-take_field-in-Ok-Some-clause-puts g c =
    let a = c.args in
    let inv = c.fields.invariant in
    let skipped = c.in_default.ensures.others in
    let turned = c.in_ok-put_turns.ensures in
    let cells = c.put_turns.new.cells in
    let in_span = c.put_turns.new.in_span in
    let fields = g.P.SubsetFields.left c.put_turns.new.fields in
    let field = c.in-Ok-Some.field in
    let so : c.in-Ok-Some.field-0 ≡ Some field = rw c.in-Ok-Some.is at c.in-Ok-Some.field-0-is in
    let handed = rw (c.in-Ok-Some.is, so) at c.pick-next.ensures in
    let columns = turned.columns ∙ skipped.1.1 ∙ inv.columns in
    let covers = subst (IsSetOf a.asked.now a.each) (sym columns) c.requires.covers in
    let whole = rows_left a.each a.cells.now (opens_at_once a.each) (g.P.SubsetFields.left a.fields.now) in
    let noted_columns = skipped.1.1 ∙ inv.columns in
    let noted = subst (IsSetOf a.asked.now a.each) (sym noted_columns) c.requires.covers in
    let after = after_turns (flagged a.asked.now) a.each c.fields.in_span c.fields.cells
    c.pick_unnoted.new.cells (g.P.SubsetFields.left c.fields.fields) skipped.0
    (g.P.SubsetFields.left c.pick_unnoted.new.fields) whole (rows_left a.each cells in_span fields)
    a.rows.now c.fields.rows c.put_turns.new.rows (g.W.Sink.writing a.writer.now)
    (g.W.Sink.writing c.fields.writer) (g.W.Sink.writing c.put_turns.new.writer) noted.0 inv.rows
    skipped.1 skipped.2 turned.puts turned.works in
    let rest = field_due (flagged a.asked.now) a.each cells in_span field fields
    (g.P.SubsetFields.left c.pick-next.new.self) covers.0 handed in
    let e = c.in_err-take_field-in-Ok-Some.field-0.0 in
    passed
    (PutsOrStops whole a.rows.now (g.W.Sink.writing a.writer.now) c.take_field.new.rows
    (g.W.Sink.writing c.take_field.new.writer))
    c.from_residual-in_err-take_field-in-Ok-Some.result e
    c.from_residual-in_err-take_field-in-Ok-Some.ensures.1
    (some_stops whole (rows_left a.each cells in_span fields) (due a.each in_span cells field) rest.0
    a.rows.now c.put_turns.new.rows c.take_field.new.rows (g.W.Sink.writing a.writer.now)
    (g.W.Sink.writing c.put_turns.new.writer) (g.W.Sink.writing c.take_field.new.writer) e after rest.1
    c.in_err-take_field-in-Ok-Some.ensures.puts)

-- no field is left
pub returns-in-Ok-None-clause-puts : goal.returns-in-Ok-None-clause-puts
returns-in-Ok-None-clause-puts g c =
    let a = c.args in
    let inv = c.fields.invariant in
    let skipped = c.in_default.ensures.others in
    let turned = c.in_ok-put_turns.ensures in
    let cells = c.put_turns.new.cells in
    let in_span = c.put_turns.new.in_span in
    let fields = g.P.SubsetFields.left c.put_turns.new.fields in
    let so : c.in-Ok-None.field-0 ≡ None = rw c.in-Ok-None.is at c.in-Ok-None.field-0-is in
    let handed = rw (c.in-Ok-None.is, so) at c.pick-next.ensures in
    let columns = turned.columns ∙ skipped.1.1 ∙ inv.columns in
    let covers = subst (IsSetOf a.asked.now a.each) (sym columns) c.requires.covers in
    let whole = rows_left a.each a.cells.now (opens_at_once a.each) (g.P.SubsetFields.left a.fields.now) in
    let noted_columns = skipped.1.1 ∙ inv.columns in
    let noted = subst (IsSetOf a.asked.now a.each) (sym noted_columns) c.requires.covers in
    let after = after_turns (flagged a.asked.now) a.each c.fields.in_span c.fields.cells
    c.pick_unnoted.new.cells (g.P.SubsetFields.left c.fields.fields) skipped.0
    (g.P.SubsetFields.left c.pick_unnoted.new.fields) whole (rows_left a.each cells in_span fields)
    a.rows.now c.fields.rows c.put_turns.new.rows (g.W.Sink.writing a.writer.now)
    (g.W.Sink.writing c.fields.writer) (g.W.Sink.writing c.put_turns.new.writer) noted.0 inv.rows
    skipped.1 skipped.2 turned.puts turned.works in
    some_last whole (rows_left a.each cells in_span fields) (ended in_span cells) a.rows.now
    c.put_turns.new.rows c.put_ended.new.rows (g.W.Sink.writing a.writer.now)
    (g.W.Sink.writing c.put_turns.new.writer) (g.W.Sink.writing c.put_ended.new.writer)
    c.put_ended.result after
    (rows_last (flagged a.asked.now) a.each cells in_span fields
    (g.P.SubsetFields.left c.pick-next.new.self) covers.0 handed)
    c.put_ended.ensures.puts

-- there was no memory for a field
pub returns-in-Err-clause-puts : goal.returns-in-Err-clause-puts
returns-in-Err-clause-puts g c =
    let a = c.args in
    let inv = c.fields.invariant in
    let skipped = c.in_default.ensures.others in
    let turned = c.in_ok-put_turns.ensures in
    let cells = c.put_turns.new.cells in
    let in_span = c.put_turns.new.in_span in
    let fields = g.P.SubsetFields.left c.put_turns.new.fields in
    let whole = rows_left a.each a.cells.now (opens_at_once a.each) (g.P.SubsetFields.left a.fields.now) in
    let noted_columns = skipped.1.1 ∙ inv.columns in
    let noted = subst (IsSetOf a.asked.now a.each) (sym noted_columns) c.requires.covers in
    let after = after_turns (flagged a.asked.now) a.each c.fields.in_span c.fields.cells
    c.pick_unnoted.new.cells (g.P.SubsetFields.left c.fields.fields) skipped.0
    (g.P.SubsetFields.left c.pick_unnoted.new.fields) whole (rows_left a.each cells in_span fields)
    a.rows.now c.fields.rows c.put_turns.new.rows (g.W.Sink.writing a.writer.now)
    (g.W.Sink.writing c.fields.writer) (g.W.Sink.writing c.put_turns.new.writer) noted.0 inv.rows
    skipped.1 skipped.2 turned.puts turned.works in
    some_ran_out whole (rows_left a.each cells in_span fields) a.rows.now c.put_turns.new.rows
    (g.W.Sink.writing a.writer.now) (g.W.Sink.writing c.put_turns.new.writer) after

-- one field more was taken
pub fields-preserved-in_ok-take_field-in-Ok-Some : goal.fields-preserved-in_ok-take_field-in-Ok-Some
fields-preserved-in_ok-take_field-in-Ok-Some g c =
    let a = c.args in
    let inv = c.fields.invariant in
    let skipped = c.in_default.ensures.others in
    let turned = c.in_ok-put_turns.ensures in
    let cells = c.put_turns.new.cells in
    let in_span = c.put_turns.new.in_span in
    let fields = g.P.SubsetFields.left c.put_turns.new.fields in
    let field = c.in-Ok-Some.field in
    let so : c.in-Ok-Some.field-0 ≡ Some field = rw c.in-Ok-Some.is at c.in-Ok-Some.field-0-is in
    let handed = rw (c.in-Ok-Some.is, so) at c.pick-next.ensures in
    let columns = turned.columns ∙ skipped.1.1 ∙ inv.columns in
    let covers = subst (IsSetOf a.asked.now a.each) (sym columns) c.requires.covers in
    let whole = rows_left a.each a.cells.now (opens_at_once a.each) (g.P.SubsetFields.left a.fields.now) in
    let noted_columns = skipped.1.1 ∙ inv.columns in
    let noted = subst (IsSetOf a.asked.now a.each) (sym noted_columns) c.requires.covers in
    let after = after_turns (flagged a.asked.now) a.each c.fields.in_span c.fields.cells
    c.pick_unnoted.new.cells (g.P.SubsetFields.left c.fields.fields) skipped.0
    (g.P.SubsetFields.left c.pick_unnoted.new.fields) whole (rows_left a.each cells in_span fields)
    a.rows.now c.fields.rows c.put_turns.new.rows (g.W.Sink.writing a.writer.now)
    (g.W.Sink.writing c.fields.writer) (g.W.Sink.writing c.put_turns.new.writer) noted.0 inv.rows
    skipped.1 skipped.2 turned.puts turned.works in
    let e = c.in_ok-take_field-in-Ok-Some.ensures in
    record {
      rows = some_next whole (rows_left a.each cells in_span fields) (due a.each in_span cells field) _
          a.rows.now c.put_turns.new.rows c.take_field.new.rows (g.W.Sink.writing a.writer.now)
          (g.W.Sink.writing c.put_turns.new.writer) (g.W.Sink.writing c.take_field.new.writer) after
          (field_next (flagged a.asked.now) a.each cells c.take_field.new.cells in_span
          c.is_open_after-in_span.result field fields (g.P.SubsetFields.left c.pick-next.new.self)
          covers.0 handed e.cells c.is_open_after-in_span.ensures)
          e.puts e.works;
      columns = ap (λ (cells : List Cell). map (λ cell. cell.column) cells) e.cells
          ∙ columns_after a.each in_span cells field ∙ columns;
    }

pub fields-preserved-in_ok-take_field-in-Ok-Some-2 : goal.fields-preserved-in_ok-take_field-in-Ok-Some-2
fields-preserved-in_ok-take_field-in-Ok-Some-2 g c =
    let a = c.args in
    let inv = c.fields.invariant in
    let skipped = c.in_default.ensures.others in
    let turned = c.in_ok-put_turns.ensures in
    let cells = c.put_turns.new.cells in
    let in_span = c.put_turns.new.in_span in
    let fields = g.P.SubsetFields.left c.put_turns.new.fields in
    let field = c.in-Ok-Some.field in
    let so : c.in-Ok-Some.field-0 ≡ Some field = rw c.in-Ok-Some.is at c.in-Ok-Some.field-0-is in
    let handed = rw (c.in-Ok-Some.is, so) at c.pick-next.ensures in
    let columns = turned.columns ∙ skipped.1.1 ∙ inv.columns in
    let covers = subst (IsSetOf a.asked.now a.each) (sym columns) c.requires.covers in
    let whole = rows_left a.each a.cells.now (opens_at_once a.each) (g.P.SubsetFields.left a.fields.now) in
    let noted_columns = skipped.1.1 ∙ inv.columns in
    let noted = subst (IsSetOf a.asked.now a.each) (sym noted_columns) c.requires.covers in
    let after = after_turns (flagged a.asked.now) a.each c.fields.in_span c.fields.cells
    c.pick_unnoted.new.cells (g.P.SubsetFields.left c.fields.fields) skipped.0
    (g.P.SubsetFields.left c.pick_unnoted.new.fields) whole (rows_left a.each cells in_span fields)
    a.rows.now c.fields.rows c.put_turns.new.rows (g.W.Sink.writing a.writer.now)
    (g.W.Sink.writing c.fields.writer) (g.W.Sink.writing c.put_turns.new.writer) noted.0 inv.rows
    skipped.1 skipped.2 turned.puts turned.works in
    let e = c.in_ok-take_field-in-Ok-Some.ensures in
    record {
      rows = some_next whole (rows_left a.each cells in_span fields) (due a.each in_span cells field) _
          a.rows.now c.put_turns.new.rows c.take_field.new.rows (g.W.Sink.writing a.writer.now)
          (g.W.Sink.writing c.put_turns.new.writer) (g.W.Sink.writing c.take_field.new.writer) after
          (field_next (flagged a.asked.now) a.each cells c.take_field.new.cells in_span
          c.is_open_after-in_span.result field fields (g.P.SubsetFields.left c.pick-next.new.self)
          covers.0 handed e.cells c.is_open_after-in_span.ensures)
          e.puts e.works;
      columns = ap (λ (cells : List Cell). map (λ cell. cell.column) cells) e.cells
          ∙ columns_after a.each in_span cells field ∙ columns;
    }

-- the set knows the cells
pub take_field-requires-clause-finds : goal.take_field-requires-clause-finds
take_field-requires-clause-finds g c =
    let skipped = c.in_default.ensures.others in
    let columns = c.in_ok-put_turns.ensures.columns ∙ skipped.1.1 ∙ c.fields.invariant.columns in
    (subst (IsSetOf c.args.asked.now c.args.each) (sym columns) c.requires.covers).1
