-- The clause of `note_short`: the only cell that asks for the field notes it.
use Rattle.std.proofs.Common.{true, ◌∙◌, ap, get_or, map, slice_set, subst, sym}
use Rattle.bufr_fields.specs.Values.{as_field}
use Rattle.bufr_select_rows.specs.Asks.{OnlyAt}
use Rattle.bufr_select_rows.specs.declared.cell.Cell.{Cell}
use Rattle.bufr_select_rows.proofs.NotedFacts.{one_noted}
use Rattle.bufr_select_rows.proofs.ShortFacts.{noted_all, noted_as}
use Rattle.bufr_select_rows.proofs.row_cells.note_short.Goals as goal

pub returns-in-Some : goal.returns-in-Some
returns-in-Some c f has =
    let cells = c.args.cells.now in
    let i = c.in-Some.index in
    let short = c.args.short in
    ap (λ (x : Cell). slice_set cells i x)
    (c.note_short.ensures ∙ noted_as f short (get_or cells i c.index-cells-index.result) has)
    ∙ one_noted true (as_field f) i cells c.index-cells-index.result
    (subst (λ d. OnlyAt d i (map (λ c. c.column) cells)) (sym has.0)
    (c.requires short.fxy i c.in-Some.ensures)) c.if-index-cells.true

pub returns-in_default : goal.returns-in_default
returns-in_default c f has =
    c.note_short_in_all.ensures ∙ noted_all f c.args.short c.args.cells.now has
