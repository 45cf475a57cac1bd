-- The cells begin the subset, and then its fields come.
use Rattle.std.proofs.Common.{◌≡◌, List, OnOk, ◌∙◌, map, refl, sym, ap, subst}
use Rattle.bufr_select_rows.specs.Asks.{IsSetOf}
use Rattle.bufr_select_rows.specs.CellLaws.{columns_begun}
use Rattle.bufr_select_rows.specs.Cells.{opens_at_once, rows_left}
use Rattle.bufr_select_rows.specs.Rows.{origin}
use Rattle.bufr_select_rows.specs.declared.cell.Cell.{Cell}
use Rattle.bufr_io.specs.HeldTexts.{PutsOrStops}
use Rattle.bufr_select_rows.proofs.PickedFacts.{rows_begun}
use Rattle.bufr_select_rows.proofs.picker.put_subset.Goals as goal

pub put_rows-requires : goal.put_rows-requires
put_rows-requires g c =
    let a = c.args in
    let is = ap (λ (cells : List Cell). map (λ cell. cell.column) cells)
    c.in_ok-begin_cells.ensures
    ∙ columns_begun (origin a.from.now) a.cells.now in
    let covers = subst (IsSetOf a.asked.now a.each) (sym is) c.requires.covers in
    λ k. ((refl, tt), (c.requires.works, covers))

pub returns-in-Ok-clause-puts : goal.returns-in-Ok-clause-puts
returns-in-Ok-clause-puts g c =
    let a = c.args in
    subst
    (λ text. PutsOrStops text a.rows.now (g.W.Sink.writing a.writer.now) c.put_rows.new.rows
    (g.W.Sink.writing c.put_rows.new.writer) c.put_rows.result)
    (ap (rows_left a.each c.begin_cells.new.cells (opens_at_once a.each)) c.in-Ok.ensures.laid
    ∙ rows_begun a.each (origin a.from.now) a.cells.now c.begin_cells.new.cells a.fields
    c.in_ok-begin_cells.ensures)
    c.put_rows.ensures.puts

pub returns-in-Ok-clause-columns : goal.returns-in-Ok-clause-columns
returns-in-Ok-clause-columns g c =
    let a = c.args in
    let is = ap (λ (cells : List Cell). map (λ cell. cell.column) cells)
    c.in_ok-begin_cells.ensures
    ∙ columns_begun (origin a.from.now) a.cells.now in
    subst
    (λ columns. OnOk c.put_rows.result (map (λ cell. cell.column) c.put_rows.new.cells ≡ columns))
    is c.put_rows.ensures.columns

pub put_rows-requires-in-Err : goal.put_rows-requires-in-Err
put_rows-requires-in-Err g c =
    let a = c.args in
    let is = ap (λ (cells : List Cell). map (λ cell. cell.column) cells)
    c.in_ok-begin_cells.ensures
    ∙ columns_begun (origin a.from.now) a.cells.now in
    let covers = subst (IsSetOf a.asked.now a.each) (sym is) c.requires.covers in
    λ k. ((refl, tt), (c.requires.works, covers))

pub returns-in-Err-clause-puts : goal.returns-in-Err-clause-puts
returns-in-Err-clause-puts g c =
    let a = c.args in
    subst
    (λ text. PutsOrStops text a.rows.now (g.W.Sink.writing a.writer.now) c.put_rows-in-Err.new.rows
    (g.W.Sink.writing c.put_rows-in-Err.new.writer) c.put_rows-in-Err.result)
    (ap (rows_left a.each c.begin_cells.new.cells (opens_at_once a.each)) c.in-Err.ensures.others
    ∙ rows_begun a.each (origin a.from.now) a.cells.now c.begin_cells.new.cells a.fields
    c.in_ok-begin_cells.ensures)
    c.put_rows-in-Err.ensures.puts

pub returns-in-Err-clause-columns : goal.returns-in-Err-clause-columns
returns-in-Err-clause-columns g c =
    let a = c.args in
    let is = ap (λ (cells : List Cell). map (λ cell. cell.column) cells)
    c.in_ok-begin_cells.ensures
    ∙ columns_begun (origin a.from.now) a.cells.now in
    subst
    (λ columns. OnOk c.put_rows-in-Err.result (map (λ cell. cell.column) c.put_rows-in-Err.new.cells ≡ columns))
    is c.put_rows-in-Err.ensures.columns
