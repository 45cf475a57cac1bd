-- The clause `none` of `read_version`: no version has these digits.
use Rattle.std.proofs.Common.{◌≡◌, ◌≢◌, ℕ, ◌<◌, List, Option, Some, None, ap, arith, subst, sym, ◌∙◌}
use Rattle.std.proofs.Common.{ℤ, pos, FitsSigned, refl}
use Rattle.std.specs.Int.{w128}
use Rattle.std.specs.Prelude.{decimal}
use Rattle.std.specs.Option.{IfNone}
use Rattle.std.proofs.lemmas.Int.{ints}
use Rattle.bufr_fields.specs.DecimalTexts.{IsDecimal}
use Rattle.bufr_fields.specs.Values.{text_of}
use Rattle.bufr_fields.specs.declared.field.Decimal.{Decimal}
use Rattle.bufr_select_engine.proofs.command_line.read_version.Goals.{then-number-lt0-via-then-number-lt0}
use Rattle.bufr_select_engine.proofs.command_line.read_version.Goals.{then-number-lt0-via-else-number-lt0+then-number}
use Rattle.bufr_select_engine.proofs.command_line.read_version.Goals as goal

-- the decimal of a version's digits
said : (digits : List ℕ) (r : Option Decimal) (n : ℕ)
    → ((d : Decimal) → IsDecimal d → d.scale ≡ pos 0 → text_of d ≡ digits → r ≡ Some d)
    → n < 256 → decimal n ≡ digits → r ≡ Some (record { units = pos n; scale = pos 0 })
said digits r n only small is =
    only (record { units = pos n; scale = pos 0 })
    (record { units = fits_wide n small; scale = refl }) refl is
  where
    fits_wide : (m : ℕ) → m < 256 → FitsSigned w128 (pos m)
    fits_wide m h = omega (arith, h)

none_said : (digits : List ℕ) (r : Option Decimal)
    → ((d : Decimal) → IsDecimal d → d.scale ≡ pos 0 → text_of d ≡ digits → r ≡ Some d)
    → r ≡ None → (n : ℕ) → n < 256 → decimal n ≢ digits
none_said digits r only none n small is = let found = said digits r n only small is in absurd cc

units_said : (digits : List ℕ) (r : Option Decimal) (number : Decimal)
    → ((d : Decimal) → IsDecimal d → d.scale ≡ pos 0 → text_of d ≡ digits → r ≡ Some d)
    → r ≡ Some number → (n : ℕ) → n < 256 → decimal n ≡ digits → number.units ≡ pos n
units_said digits r number only was n small is =
    let found = said digits r n only small is in
    ap (λ (o : Option Decimal). units_or o) (sym was ∙ found)
  where
    units_or : Option Decimal → ℤ
    units_or None = pos 0
    units_or (Some d) = d.units

pub returns-in_err-number-clause-none : goal.returns-in_err-number-clause-none
returns-in_err-number-clause-none c =
    subst (λ (r : Option ℕ). IfNone r ((n : ℕ) → n < 256 → decimal n ≢ c.args.text.now))
    (sym c.from_residual.ensures)
    (λ n small is. none_said c.as_bytes.result.now c.parse.result c.parse.ensures.only
    c.in_err-number.was n small (is ∙ sym c.as_bytes.ensures.value))

pub returns-then-number-lt0-clause-none : goal.returns-then-number-lt0-clause-none
returns-then-number-lt0-clause-none c = λ n small is.
    let units = units_said c.as_bytes.result.now c.parse.result c.in_ok-number.number
    c.parse.ensures.only c.in_ok-number.was n small (is ∙ sym c.as_bytes.ensures.value) in
    elim c.then-number-lt0.branch [
      | then-number-lt0-via-then-number-lt0 w ↦
          let below = w.if-number-lt0.true in grind (arith, ints)
      | then-number-lt0-via-else-number-lt0+then-number w ↦
          let above = w.if-number.true in grind (arith, ints)
    ]
