-- The clause of `push_only`: a cell that shows no octet, or some.
use Rattle.std.proofs.Common.{◌∙◌, ◌++◌, List, ℕ, ap, arith, length, length-append}
use Rattle.csv.specs.Writing.{default_writer, field_text}
use Rattle.bufr_select_rows.specs.Cells.{shown}
use Rattle.bufr_select_rows.proofs.RowFacts.{on_ok_then, only_blank, only_ended}
use Rattle.bufr_select_rows.proofs.row.push_only.Goals as goal

pub returns-then-len-long : goal.returns-then-len-long
returns-then-len-long c =
    let old = c.args.text.now.items in
    let one = c.in_ok-push_to.ensures
    ∙ ap (λ (t : List ℕ). old ++ field_text default_writer t) c.shown.ensures in
    on_ok_then c.push_blank.result
    (only_blank (shown c.args.cell.now) old c.push_to.new.text.items c.push_blank.new.text.items one
    (omega (arith, c.if-len-long.true, c.len.ensures, c.len-long.ensures)))
    c.push_blank.ensures

pub returns : goal.returns
returns c =
    let old = c.args.text.now.items in
    let one = c.in_ok-push_to.ensures
    ∙ ap (λ (t : List ℕ). old ++ field_text default_writer t) c.shown.ensures in
    let long = ap length one in
    let sum = length-append old (field_text default_writer (shown c.args.cell.now)) in
    on_ok_then c.push_end.result
    (only_ended (shown c.args.cell.now) old c.push_to.new.text.items c.push_end.new.text.items one
    (omega (arith, c.if-len-long.false, c.len.ensures, c.len-long.ensures, long, sum)))
    c.push_end.ensures
