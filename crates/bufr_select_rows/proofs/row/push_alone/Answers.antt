-- The clause of `push_alone`: a field and the end.
use Rattle.std.proofs.Common.{◌∙◌, ◌++◌, sym}
use Rattle.bufr_select_rows.proofs.RowFacts.{on_ok_then, one_pieces, row_empty}
use Rattle.bufr_select_rows.proofs.row.push_alone.Goals as goal

pub returns-then-is_empty : goal.returns-then-is_empty
returns-then-is_empty c =
    on_ok_then c.push_blank.result
    (λ e. e ∙ (λ i. c.args.text.now.items ++ sym (row_empty c.args.field.now
    (sym c.is_empty.ensures ∙ c.if-is_empty.true)) i))
    c.push_blank.ensures

pub returns : goal.returns
returns c =
    on_ok_then c.push_end.result
    (one_pieces c.args.field.now c.args.text.now.items c.push_field.new.text.items
    c.push_end.new.text.items (sym c.is_empty.ensures ∙ c.if-is_empty.false)
    c.in_ok-push_field.ensures)
    c.push_end.ensures
