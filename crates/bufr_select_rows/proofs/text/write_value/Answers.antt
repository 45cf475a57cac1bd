-- The clause `written` of `write_value`: numbers need no quotes.
use Rattle.std.proofs.Common.{◌≡◌, ◌++◌, ◌∙◌, [], ap, drop, sym}
use Rattle.std.specs.Prelude.{◌+ℤ◌, pos}
use Rattle.csv.specs.Writing.{default_writer, field_text}
use Rattle.bufr_fields.specs.Values.{as_field, decimal_within}
use Rattle.bufr_select_rows.specs.Texts.{sum_word, text_of}
use Rattle.bufr_select_rows.specs.Values.{shown_value}
use Rattle.bufr_select_rows.specs.declared.text.TextForm.{TextForm}
use Rattle.bufr_select_rows.proofs.BareFacts.{word_text}
use Rattle.bufr_select_rows.proofs.WrittenFacts.{text_same}
use Rattle.bufr_select_rows.proofs.text.write_value.Goals as goal

pub returns-in-Empty-clause-written : goal.returns-in-Empty-clause-written
returns-in-Empty-clause-written c =
    ap (λ t. field_text default_writer t ++ drop c.args.end c.args.room.now)
    (ap (λ (t : TextForm). text_of t []) (sym c.in-Empty.is) ∙ c.form_of.ensures [])

pub returns-in-Sum-clause-written : goal.returns-in-Sum-clause-written
returns-in-Sum-clause-written c =
    let s = c.in-Sum.sum in
    let shown = shown_value (as_field c.args.field) in
    let same : sum_word s ≡ field_text default_writer shown =
    sym (word_text (decimal_within (pos s.number +ℤ s.reference) s.scale))
    ∙ ap (field_text default_writer)
    (ap (λ (t : TextForm). text_of t []) (sym c.in-Sum.is) ∙ c.form_of.ensures []) in
    text_same c.write_number.result c.write_number.new.room (sum_word s)
    (field_text default_writer shown) (drop c.args.end c.args.room.now) same
    c.write_number.ensures.written
