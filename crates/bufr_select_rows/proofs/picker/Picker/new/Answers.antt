-- The cells have the columns for which they were made.
use Rattle.std.proofs.Common.{List, ◌∙◌, map, ap}
use Rattle.bufr_select_rows.specs.declared.cell.Cell.{Cell}
use Rattle.bufr_select_rows.proofs.PickedFacts.{columns_fresh}
use Rattle.bufr_select_rows.proofs.picker.Picker.new.Goals as goal

pub returns-clause-cells : goal.returns-clause-cells
returns-clause-cells c =
    ap (λ (cells : List Cell). map (λ cell. cell.column) cells) c.in_ok-cells.ensures
    ∙ columns_fresh c.args.columns.now
