-- The clause `none` of `number_of`: no number has these digits.
use Rattle.std.proofs.Common.{◌≢◌, ℕ, ◌<◌, ◌^◌, Option, arith, subst, sym}
use Rattle.std.specs.Prelude.{decimal}
use Rattle.std.proofs.lemmas.Int.{ints}
use Rattle.std.specs.Option.{IfNone}
use Rattle.bufr_select_rows.proofs.WordFacts.{number_none, number_units}
use Rattle.bufr_select_rows.proofs.column.number_of.Goals.{then-number-lt1-via-then-number-lt1}
use Rattle.bufr_select_rows.proofs.column.number_of.Goals.{then-number-lt1-via-else-number-lt1+then-number}
use Rattle.bufr_select_rows.proofs.column.number_of.Goals as goal

pub returns-in_err-number-clause-none : goal.returns-in_err-number-clause-none
returns-in_err-number-clause-none c =
    subst
    (λ (r : Option ℕ). IfNone r ((n : ℕ) → 0 < n → n < 2 ^ 64 → decimal n ≢ c.args.digits.now)) (sym c.from_residual.ensures)
    (number_none c.args.digits.now c.parse.result c.parse.ensures.only c.in_err-number.was)

pub returns-then-number-lt1-clause-none : goal.returns-then-number-lt1-clause-none
returns-then-number-lt1-clause-none c = λ n some small is.
    let units = number_units c.args.digits.now c.parse.result c.in_ok-number.number
    c.parse.ensures.only c.in_ok-number.was n small is in
    elim c.then-number-lt1.branch [
      | then-number-lt1-via-then-number-lt1 w ↦
          let below = w.if-number-lt1.true in grind (arith, ints)
      | then-number-lt1-via-else-number-lt1+then-number w ↦
          let above = w.if-number.true in grind (arith, ints)
    ]
