use Rattle.std.proofs.Common.{◌≡◌, ◌∙◌, sym, arith, pos, FitsSigned, rules}
use Rattle.std.specs.Prelude.{Option, Some, None, option_and_then}
use Rattle.std.specs.Int.{w128}
use Rattle.std.proofs.lemmas.Int.{to_z-of_z}
use Rattle.bufr_fields.specs.declared.field.Decimal.{Decimal}
use Rattle.bufr_listing_reader.specs.Words.{below, number_below}
use Rattle.bufr_listing_reader.proofs.ParseFacts.{parsed, below_none, below_some, below_over, word_by}
use Rattle.bufr_listing_reader.proofs.line_words.number_below.Goals.{After-parse}
use Rattle.bufr_listing_reader.proofs.line_words.number_below.Goals as goal

by_decimal : (c : After-parse) (o : Option Decimal) → c.parse.result ≡ o
    → number_below c.args.limit c.args.word.now
    ≡ option_and_then (λ (d : Decimal). below c.args.limit d.units) o
by_decimal c o was =
    let e = parsed c.parse.result (pos 0) c.args.word.now c.parse.ensures.found
    c.parse.ensures.only in
    word_by c.args.limit c.args.word.now o (sym e ∙ was)

pub returns-in_err-value : goal.returns-in_err-value
returns-in_err-value c =
    c.from_residual.ensures
    ∙ sym (by_decimal (goal.at.returns-in_err-value c).After-parse None c.in_err-value.was)

pub returns-in_err-number : goal.returns-in_err-number
returns-in_err-number c =
    let fits : FitsSigned w128 c.in_ok-value.value.units = search rules in
    let exact = simp to_z-of_z at c.natural.ensures in
    let none =
    below_none c.args.limit c.in_ok-value.value.units (omega (arith, c.ranges.limit.fits))
    (sym exact ∙ c.in_err-number.was) in
    c.from_residual-in_err-number.ensures
    ∙ sym (by_decimal (goal.at.returns-in_err-number c).After-parse (Some c.in_ok-value.value)
    c.in_ok-value.was ∙ none)

pub returns-then-number-limit : goal.returns-then-number-limit
returns-then-number-limit c =
    let fits : FitsSigned w128 c.in_ok-value.value.units = search rules in
    let exact = simp to_z-of_z at c.natural.ensures in
    let some = below_some c.args.limit c.in_ok-number.number c.in_ok-value.value.units
    (sym exact ∙ c.in_ok-number.was) c.if-number-limit.true in
    sym (by_decimal (goal.at.returns-then-number-limit c).After-parse (Some c.in_ok-value.value)
    c.in_ok-value.was ∙ some)

pub returns-else-number-limit : goal.returns-else-number-limit
returns-else-number-limit c =
    let fits : FitsSigned w128 c.in_ok-value.value.units = search rules in
    let exact = simp to_z-of_z at c.natural.ensures in
    let over = below_over c.args.limit c.in_ok-number.number c.in_ok-value.value.units
    (sym exact ∙ c.in_ok-number.was) (λ lt. omega (arith, lt, c.if-number-limit.false)) in
    sym (by_decimal (goal.at.returns-else-number-limit c).After-parse (Some c.in_ok-value.value)
    c.in_ok-value.was ∙ over)
