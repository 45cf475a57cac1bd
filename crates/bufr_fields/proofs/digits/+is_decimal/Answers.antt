use Rattle.std.proofs.Common.{◌∙◌, [], arith, sym}
use Rattle.std.proofs.lemmas.Fmt.{decimal_step_wide}
use Rattle.std.proofs.lemmas.List.{nil_from_length}
use Rattle.bufr_fields.proofs.DigitTestFacts.{last_same, last_differs, decimal_ends, digit_ends}
use Rattle.bufr_fields.proofs.DigitTestFacts.{decimal_some, is_nothing}
use Rattle.bufr_fields.proofs.digits.+is_decimal.Goals as goal

pub returns-then-last-last_digit : goal.returns-then-last-last_digit
returns-then-last-last_digit t c =
    let ends = decimal_ends c.args.number (omega (arith, c.ranges.number.fits)) in
    last_differs _ ends.front _ _ _ _ ends.ends c.in-Some.ensures.cases.0
    (λ e. c.if-last-last_digit.true (e ∙ sym c.last_digit.ensures))

pub returns-then-number-lt10 : goal.returns-then-number-lt10
returns-then-number-lt10 t c =
    is_nothing _ _ (sym c.is_empty.ensures)
    ∙ last_same _ [] _ _ _ _
    (digit_ends c.args.number (omega (arith, c.if-number-lt10.true))) c.in-Some.ensures.cases.0
    (c.if-last-last_digit.false ∙ c.last_digit.ensures)

pub returns-in-None : goal.returns-in-None
returns-in-None t c =
    decimal_some c.args.number _ (omega (arith, c.ranges.number.fits))
    (nil_from_length _ c.in-None.ensures.cases)

pub returns-else-number-lt10 : goal.returns-else-number-lt10
returns-else-number-lt10 t c =
    c.is_decimal.ensures
    ∙ last_same _ _ _ _ _ _
    (decimal_step_wide c.args.number (omega (arith, c.if-number-lt10.false))
    (omega (arith, c.ranges.number.fits))) c.in-Some.ensures.cases.0
    (c.if-last-last_digit.false ∙ c.last_digit.ensures)
