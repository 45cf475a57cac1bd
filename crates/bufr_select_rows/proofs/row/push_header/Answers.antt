-- The clause of `push_header`: no column, or several.
use Rattle.std.proofs.Common.{◌∙◌, ◌++◌, ap, sym}
use Rattle.bufr_select_rows.specs.Columns.{word}
use Rattle.bufr_select_rows.proofs.RowFacts.{on_ok_then, row_pieces, rows_none}
use Rattle.bufr_select_rows.proofs.row.push_header.Goals as goal

pub returns-in-empty : goal.returns-in-empty
returns-in-empty c =
    on_ok_then c.push_blank.result
    (λ e. e ∙ (λ i. c.args.text.now.items ++ rows_none word c.args.columns.now c.in-empty.len_below i))
    c.push_blank.ensures

pub returns : goal.returns
returns c =
    on_ok_then c.push_end.result
    (row_pieces word c.args.columns.now c.first-item.result c.args.text.now.items
    c.push_field.new.text.items c.push_words.new.text.items c.push_end.new.text.items
    c.as_slice-in-len1-up.result.now c.in-len1-up.len_at_least c.first-item.is
    (sym c.is_empty.ensures ∙ c.if-is_empty.false)
    (c.as_slice-in-len1-up.ensures.value ∙ c.in_ok-push_word-in-len1-up.ensures ∙ ap (λ ws. ws ++ word c.first-item.result) c.new-word.ensures.items)
    c.in_ok-push_field-in-len1-up.ensures c.in_ok-push_words-in-len1-up.ensures)
    c.push_end.ensures
