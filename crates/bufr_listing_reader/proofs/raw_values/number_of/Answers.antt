use Rattle.std.proofs.Common.{◌≡◌, ◌∙◌, sym, arith, false, FitsSigned, rules}
use Rattle.std.specs.Prelude.{Option, Some, None, option_and_then, nat_lt, ◌-ℤ◌}
use Rattle.std.specs.Int.{w32, w64, w128}
use Rattle.std.proofs.lemmas.Int.{to_z-of_z}
use Rattle.std.proofs.lemmas.Bool.Decides.{nat_tests}
use Rattle.bufr_fields.specs.declared.field.Decimal.{Decimal}
use Rattle.bufr_listing_reader.specs.FieldLines.{is_missing_word}
use Rattle.bufr_listing_reader.specs.RawWords.{number_above, number_of}
use Rattle.bufr_listing_reader.proofs.ParseFacts.{parsed}
use Rattle.bufr_listing_reader.proofs.RawFacts.{number_by, above_none, above_some}
use Rattle.bufr_listing_reader.proofs.raw_values.number_of.Goals.{After-parse}
use Rattle.bufr_listing_reader.proofs.raw_values.number_of.Goals as goal

by_decimal : (c : After-parse) (o : Option Decimal) → c.parse.result ≡ o
    → number_of c.args.spec c.args.word.now
    ≡ option_and_then
    (λ (d : Decimal). number_above c.args.spec (d.units -ℤ c.args.spec.reference)) o
by_decimal c o was =
    let whole : FitsSigned w32 c.args.spec.scale = search rules in
    let found = simp to_z-of_z at c.parse.ensures.found in
    let only = simp to_z-of_z at c.parse.ensures.only in
    let e = parsed c.parse.result c.args.spec.scale c.args.word.now found only in
    let small : nat_lt 64 c.args.spec.width ≡ false = grind (arith, nat_tests) in
    let other : is_missing_word c.args.word.now ≡ false = sym c.eq.ensures ∙ c.if-eq.false in
    number_by c.args.spec c.args.word.now o small other (sym e ∙ was)

pub returns-in_err-value : goal.returns-in_err-value
returns-in_err-value c =
    c.from_residual.ensures
    ∙ sym (by_decimal (goal.at.returns-in_err-value c).After-parse None c.in_err-value.was)

pub returns-in_err-number : goal.returns-in_err-number
returns-in_err-number c =
    let fits : FitsSigned w128 c.in_ok-value.value.units = search rules in
    let narrow : FitsSigned w64 c.args.spec.reference = search rules in
    let exact = simp to_z-of_z at c.above.ensures in
    c.from_residual-in_err-number.ensures
    ∙ sym (by_decimal (goal.at.returns-in_err-number c).After-parse (Some c.in_ok-value.value)
    c.in_ok-value.was ∙ above_none c.args.spec _ (omega arith) (sym exact ∙ c.in_err-number.was))

pub returns : goal.returns
returns c =
    let fits : FitsSigned w128 c.in_ok-value.value.units = search rules in
    let narrow : FitsSigned w64 c.args.spec.reference = search rules in
    let exact = simp to_z-of_z at c.above.ensures in
    c.unless_missing.ensures
    ∙ sym (by_decimal (goal.at.returns c).After-parse (Some c.in_ok-value.value) c.in_ok-value.was
    ∙ above_some c.args.spec _ c.in_ok-number.number (sym exact ∙ c.in_ok-number.was))
