-- The clause of `push_row`: no cell, or several.
use Rattle.std.proofs.Common.{◌∙◌, ◌++◌, sym}
use Rattle.bufr_select_rows.specs.Cells.{shown}
use Rattle.bufr_select_rows.proofs.RowFacts.{on_ok_then, row_pieces, rows_none}
use Rattle.bufr_select_rows.proofs.row.push_row.Goals as goal

pub returns-in-empty : goal.returns-in-empty
returns-in-empty c =
    on_ok_then c.push_blank.result
    (λ e. e ∙ (λ i. c.args.text.now.items ++ rows_none shown c.args.cells.now c.in-empty.len_below i))
    c.push_blank.ensures

pub returns-in_ok-push_others-in-len1-up : goal.returns-in_ok-push_others-in-len1-up
returns-in_ok-push_others-in-len1-up c =
    on_ok_then c.push_end.result
    (row_pieces shown c.args.cells.now c.first-item.result c.args.text.now.items
    c.push_to.new.text.items c.push_others.new.text.items c.push_end.new.text.items
    c.shown.result.now c.in-len1-up.len_at_least c.first-item.is
    (sym c.is_empty.ensures ∙ c.if-is_empty.false) c.shown.ensures
    c.in_ok-push_to-in-len1-up.ensures c.in_ok-push_others-in-len1-up.ensures)
    c.push_end.ensures
