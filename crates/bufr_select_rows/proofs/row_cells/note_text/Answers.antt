-- The clause of `note_text`: the only cell that asks for the field notes it.
use Rattle.std.proofs.Common.{true, ◌∙◌, ap, get_or, map, slice_set, subst, sym}
use Rattle.bufr_select_rows.specs.Asks.{OnlyAt}
use Rattle.bufr_select_rows.specs.declared.cell.Cell.{Cell}
use Rattle.bufr_select_rows.proofs.LentFacts.{lent_noted, lent_noted_all}
use Rattle.bufr_select_rows.proofs.NotedFacts.{one_noted}
use Rattle.bufr_select_rows.proofs.RowFacts.{on_ok_then}
use Rattle.bufr_select_rows.proofs.row_cells.note_text.Goals as goal

pub returns-in-Some : goal.returns-in-Some
returns-in-Some c =
    let cells = c.args.cells.now in
    let i = c.in-Some.index in
    let fxy = c.args.fxy in
    on_ok_then c.note_text.result
    (λ e f has. ap (λ (x : Cell). slice_set cells i x)
    (e ∙ lent_noted f fxy c.args.octets.now (get_or cells i c.index-cells-index.result) has)
    ∙ one_noted true f i cells c.index-cells-index.result
    (subst (λ d. OnlyAt d i (map (λ c. c.column) cells)) (sym has.0)
    (c.requires fxy i c.in-Some.ensures)) c.if-index-cells.true)
    c.note_text.ensures

pub returns-in_default : goal.returns-in_default
returns-in_default c =
    on_ok_then c.note_text_in_all.result
    (λ e f has. e ∙ lent_noted_all f c.args.fxy c.args.octets.now c.args.cells.now has)
    c.note_text_in_all.ensures
