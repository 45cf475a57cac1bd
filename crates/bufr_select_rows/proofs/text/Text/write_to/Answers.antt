-- The clause `written` of `write_to`: numbers need no quotes.
use Rattle.std.proofs.Common.{◌≡◌, ◌∙◌, ap, decimal, drop, sym}
use Rattle.std.specs.Prelude.{◌+ℤ◌, pos}
use Rattle.csv.specs.Writing.{default_writer, field_text}
use Rattle.bufr_fields.specs.Values.{decimal_within}
use Rattle.bufr_select_rows.specs.Texts.{sum_word, text_of}
use Rattle.bufr_select_rows.specs.declared.text.TextForm.{TextForm}
use Rattle.bufr_select_rows.proofs.BareFacts.{count_text, word_text}
use Rattle.bufr_select_rows.proofs.WrittenFacts.{text_same}
use Rattle.bufr_select_rows.proofs.text.Text.write_to.Goals as goal

pub returns-in-Sum-clause-written : goal.returns-in-Sum-clause-written
returns-in-Sum-clause-written c =
    let s = c.in-Sum.sum in
    let same : sum_word s ≡ field_text default_writer c.args.self.now =
    sym (word_text (decimal_within (pos s.number +ℤ s.reference) s.scale))
    ∙ ap (field_text default_writer)
    (ap (λ (t : TextForm). text_of t c.self.inside.octets.items) (sym c.in-Sum.is) ∙ c.self.view_is) in
    text_same c.write_number.result c.write_number.new.room (sum_word s)
    (field_text default_writer c.args.self.now) (drop c.args.end c.args.room.now) same
    c.write_number.ensures.written

pub returns-in-Count-clause-written : goal.returns-in-Count-clause-written
returns-in-Count-clause-written c =
    let same : decimal c.in-Count.count ≡ field_text default_writer c.args.self.now =
    sym (count_text c.in-Count.count)
    ∙ ap (field_text default_writer)
    (ap (λ (t : TextForm). text_of t c.self.inside.octets.items) (sym c.in-Count.is) ∙ c.self.view_is) in
    text_same c.write_count.result c.write_count.new.room (decimal c.in-Count.count)
    (field_text default_writer c.args.self.now) (drop c.args.end c.args.room.now) same
    c.write_count.ensures.written
