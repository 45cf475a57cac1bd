use Rattle.std.proofs.Common.{◌∙◌, sym}
use Rattle.std.proofs.lemmas.Bool.{ne_eqb}
use Rattle.bufr_fields.proofs.DigitTestFacts.{last_same, last_differs, last_digits_end}
use Rattle.bufr_fields.proofs.digits.+are_last_digits.Goals as goal

pub returns-then-last-last_digit : goal.returns-then-last-last_digit
returns-then-last-last_digit t c =
    let split = c.in-Some.ensures.cases.0 in
    c.are_last_digits.ensures
    ∙ last_same _ _ _ _ _ _ (last_digits_end c.args.number _ _ _ split) split
    (c.if-last-last_digit.true ∙ c.last_digit.ensures)

pub returns-else-last-last_digit : goal.returns-else-last-last_digit
returns-else-last-last_digit t c =
    let split = c.in-Some.ensures.cases.0 in
    ne_eqb _ _ c.if-last-last_digit.false
    ∙ last_differs _ _ _ _ _ _ (last_digits_end c.args.number _ _ _ split) split
    (λ e. c.if-last-last_digit.false (e ∙ sym c.last_digit.ensures))
