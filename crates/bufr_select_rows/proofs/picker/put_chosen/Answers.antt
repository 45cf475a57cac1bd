-- The cells begin the subset, and then its chosen fields come.
use Rattle.std.proofs.Common.{◌≡◌, List, OnOk, ◌∙◌, map, refl, sym, ap, subst}
use Rattle.bufr_select_rows.specs.Asks.{IsSetOf}
use Rattle.bufr_select_rows.specs.CellLaws.{columns_begun}
use Rattle.bufr_select_rows.specs.Cells.{opens_at_once, rows_left}
use Rattle.bufr_select_rows.specs.Rows.{origin}
use Rattle.bufr_select_rows.specs.declared.cell.Cell.{Cell}
use Rattle.bufr_io.specs.HeldTexts.{PutsOrStops}
use Rattle.bufr_select_rows.proofs.ChosenFacts.{covers_listed, rows_chosen}
use Rattle.bufr_select_rows.proofs.PickedFacts.{rows_begun}
use Rattle.bufr_select_rows.proofs.picker.put_chosen.Goals as goal

pub put_rows-requires : goal.put_rows-requires
put_rows-requires g c =
    let a = c.args in
    let is = ap (λ (cells : List Cell). map (λ cell. cell.column) cells)
    c.in_ok-begin_cells.ensures
    ∙ columns_begun (origin a.from.now) a.cells.now in
    let covers = subst (IsSetOf a.asked.now a.each) (sym is) c.requires.covers in
    λ k. ((refl, tt), (c.requires.works, covers))

pub returns-clause-puts : goal.returns-clause-puts
returns-clause-puts g c list all lists fields_are =
    let a = c.args in
    let begun = c.begin_cells.new.cells in
    let is = ap (λ (cells : List Cell). map (λ cell. cell.column) cells)
    c.in_ok-begin_cells.ensures
    ∙ columns_begun (origin a.from.now) a.cells.now in
    let covers : IsSetOf a.asked.now a.each (map (λ cell. cell.column) begun) =
    subst (IsSetOf a.asked.now a.each) (sym is) c.requires.covers in
    subst
    (λ text. PutsOrStops text a.rows.now (g.W.Sink.writing a.writer.now) c.put_rows.new.rows
    (g.W.Sink.writing c.put_rows.new.writer) c.put_rows.result)
    (ap (rows_left a.each begun (opens_at_once a.each)) fields_are
    ∙ rows_chosen list a.each begun (opens_at_once a.each) all
    (covers_listed a.asked.now list a.each (map (λ cell. cell.column) begun) lists covers.0)
    ∙ rows_begun a.each (origin a.from.now) a.cells.now begun all c.in_ok-begin_cells.ensures)
    c.put_rows.ensures.puts

pub returns-clause-columns : goal.returns-clause-columns
returns-clause-columns g c =
    let a = c.args in
    let is = ap (λ (cells : List Cell). map (λ cell. cell.column) cells)
    c.in_ok-begin_cells.ensures
    ∙ columns_begun (origin a.from.now) a.cells.now in
    subst
    (λ columns. OnOk c.put_rows.result (map (λ cell. cell.column) c.put_rows.new.cells ≡ columns))
    is c.put_rows.ensures.columns
