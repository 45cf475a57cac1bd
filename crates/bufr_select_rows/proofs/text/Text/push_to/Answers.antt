-- The clause of `push_to`: numbers need no quotes.
use Rattle.std.proofs.Common.{◌≡◌, ◌∙◌, ◌++◌, List, ℕ, ap, decimal, sym}
use Rattle.std.specs.Prelude.{◌+ℤ◌, pos}
use Rattle.csv.specs.Writing.{default_writer, field_text}
use Rattle.bufr_fields.specs.Values.{decimal_within}
use Rattle.bufr_select_rows.specs.Texts.{sum_word, text_of}
use Rattle.bufr_select_rows.specs.declared.text.TextForm.{TextForm}
use Rattle.bufr_select_rows.proofs.BareFacts.{count_text, word_text}
use Rattle.bufr_select_rows.proofs.RowFacts.{on_ok_then}
use Rattle.bufr_select_rows.proofs.text.Text.push_to.Goals as goal

pub returns-in-Sum : goal.returns-in-Sum
returns-in-Sum c =
    let s = c.in-Sum.sum in
    let same : sum_word s ≡ field_text default_writer c.args.self.now =
    sym (word_text (decimal_within (pos s.number +ℤ s.reference) s.scale))
    ∙ ap (field_text default_writer)
    (ap (λ (t : TextForm). text_of t c.self.inside.octets.items) (sym c.in-Sum.is) ∙ c.self.view_is) in
    on_ok_then c.push_sum.result
    (λ e. e ∙ ap (λ (t : List ℕ). c.args.text.now.items ++ t) same) c.push_sum.ensures

pub returns-in-Count : goal.returns-in-Count
returns-in-Count c =
    let same : decimal c.in-Count.count ≡ field_text default_writer c.args.self.now =
    sym (count_text c.in-Count.count)
    ∙ ap (field_text default_writer)
    (ap (λ (t : TextForm). text_of t c.self.inside.octets.items) (sym c.in-Count.is) ∙ c.self.view_is) in
    on_ok_then c.push_digits.result
    (λ e. e ∙ ap (λ (t : List ℕ). c.args.text.now.items ++ t) same) c.push_digits.ensures
