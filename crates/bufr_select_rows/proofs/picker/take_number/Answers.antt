-- The opened cells have the same columns: what `take_number` calls requires it.
use Rattle.std.proofs.Common.{List, ◌∙◌, ap, map, sym, subst}
use Rattle.bufr_select_rows.specs.Asks.{Finds}
use Rattle.bufr_select_rows.specs.CellLaws.{columns_opened}
use Rattle.bufr_select_rows.specs.declared.cell.Cell.{Cell}
use Rattle.bufr_select_rows.proofs.picker.take_number.Goals as goal

pub note_number-requires : goal.note_number-requires
note_number-requires g c =
    let cells = c.args.cells.now in
    let is = ap (λ (cs : List Cell). map (λ cell. cell.column) cs) c.open_cells.ensures
    ∙ columns_opened cells in
    subst (Finds c.args.asked.now) (sym is) c.requires.finds
