-- The clause `written` of `write_fact`: digits need no quotes.
use Rattle.std.proofs.Common.{◌≡◌, ◌∙◌, ap, decimal, drop, sym}
use Rattle.csv.specs.Writing.{default_writer, field_text}
use Rattle.bufr_select_rows.specs.Rows.{origin, told_number}
use Rattle.bufr_select_rows.proofs.BareFacts.{count_text}
use Rattle.bufr_select_rows.proofs.WrittenFacts.{text_same}
use Rattle.bufr_select_rows.proofs.source.write_fact.Goals as goal

pub returns-in-Ok-clause-written : goal.returns-in-Ok-clause-written
returns-in-Ok-clause-written c =
    let told = told_number c.args.fact (origin c.args.from.now) in
    let same : decimal c.in-Ok.count ≡ field_text default_writer (decimal told) =
    sym (count_text c.in-Ok.count)
    ∙ ap (λ n. field_text default_writer (decimal n)) (c.in-Ok.ensures.1 ∙ c.number.ensures) in
    text_same c.write_count.result c.write_count.new.room (decimal c.in-Ok.count)
    (field_text default_writer (decimal told)) (drop c.args.end c.args.room.now) same
    c.write_count.ensures.written
