-- The clauses of `write_turn_cells`: one cell more.
use Rattle.std.proofs.Common.{◌∙◌, ◌++◌, ap, arith, drop, refl}
use Rattle.csv.specs.Writing.{default_writer, field_text}
use Rattle.bufr_data.specs.Turns.{numbered}
use Rattle.bufr_select_rows.specs.Turns.{sourced, turn_text}
use Rattle.bufr_select_rows.proofs.RowFacts.{field_before}
use Rattle.bufr_select_rows.proofs.TurnFacts.{last_source}
use Rattle.bufr_select_rows.proofs.turn.write_turn_cells.Goals as goal

pub loop-cell-preserved : goal.loop-cell-preserved
loop-cell-preserved c =
    let a = c.args in
    let inv = c.loop-cell.invariant in
    let e = c.in_ok-field.ensures in
    let text = sourced a.fields.now a.numbers.now in
    let turn = numbered a.fields.now a.numbers.now in
    let cell = c.in-Some.cell.now in
    let parted = last_source a.fields.now c.loop-cell.left.now c.in-Some.others.now
    c.loop-cell.sources_left.now c.in-Some-split_last.other_sources.now cell c.in-Some-split_last.source.now inv.sources
    c.in-Some.ensures.cases.0 c.in-Some-split_last.ensures.cases.0 in
    record {
      fields = field_before text c.loop-cell.left.now c.in-Some.others.now cell (text cell)
          c.loop-cell.room c.write_turn_cell.new.room _ c.loop-cell.start c.in_ok-field.field
          c.in-Some.ensures.cases.0 refl (omega (arith, c.if-field-eq0.false))
          (omega (
            arith,
            e.within,
            inv.within,
            c.requires.room,
            c.loop-cell.auto.room,
            c.write_turn_cell.auto.room,
          ))
          (e.written ∙ ap
          (λ x. field_text default_writer (turn_text turn cell x)
          ++ drop c.loop-cell.start c.loop-cell.room)
          parted.0)
          refl ∙ inv.fields;
      sources = parted.1;
      within = omega (arith, e.within, inv.within);
    }
