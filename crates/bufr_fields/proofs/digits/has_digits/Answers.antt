-- The scale says where the point or the zeros begin; each part decides for itself.
use Rattle.std.proofs.Common.{arith, sym, ap, length, ◌∙◌, ◌/◌, ◌^◌, FitsSigned, rules}
use Rattle.std.specs.Int.{w32}
use Rattle.std.proofs.lemmas.Bool.{both_ways, ne_eqb}
use Rattle.std.proofs.lemmas.Int.{to_z-of_z}
use Rattle.bufr_fields.proofs.DigitTestFacts.{whole_true, whole_false, point_true, point_false}
use Rattle.bufr_fields.proofs.DigitTestFacts.{no_point, rest_tail, zero_places}
use Rattle.std.specs.Str.{bytes_eq}
use Rattle.bufr_fields.specs.Digits.{last_digits}
use Rattle.bufr_fields.proofs.digits.has_digits.Goals as goal
use Rattle.bufr_fields.proofs.digits.has_digits.Goals.{then-rest-eq46, else-rest-eq46}

pub returns-then-is_decimal : goal.returns-then-is_decimal
returns-then-is_decimal c =
    let fits : FitsSigned w32 c.args.scale = search rules in
    let places = simp to_z-of_z at c.unsigned_abs-places.ensures.value in
    let above = simp to_z-of_z at c.if-scale-gt0.true in
    elim c.if-rest-eq46.branch [
      | then-rest-eq46 w ↦
          let again = simp to_z-of_z at w.unsigned_abs.ensures.value in
          point_true _ _ _ _ _ _ _ _ _ above (omega (arith, c.ranges.number.fits)) places
          (w.without_last.ensures
          ∙ ap (λ k. c.args.number / 10 ^ k) (again ∙ sym places)) c.split_at.ensures.by_index.0
          (omega (
            arith,
            c.split_at.ensures.back_len,
            c.if-text-places.false,
          )) w.if-rest-eq46.true w.is_decimal.ensures
          (sym w.value-is ∙ c.if-is_decimal.true)
          (c.are_last_digits.ensures
          ∙ ap (λ t. bytes_eq (last_digits (length t) c.args.number) t)
          (rest_tail c.split_at.result.1.now))
      | else-rest-eq46 w ↦
          absurd (both_ways c.if-rest-eq46.value (w.value-is ∙ ne_eqb _ _ w.if-rest-eq46.false)
          c.if-is_decimal.true)
    ]

pub returns-else-is_decimal : goal.returns-else-is_decimal
returns-else-is_decimal c =
    let fits : FitsSigned w32 c.args.scale = search rules in
    let places = simp to_z-of_z at c.unsigned_abs-places.ensures.value in
    let above = simp to_z-of_z at c.if-scale-gt0.true in
    elim c.if-rest-eq46.branch [
      | then-rest-eq46 w ↦
          let again = simp to_z-of_z at w.unsigned_abs.ensures.value in
          point_false _ _ _ _ _ _ _ _ above (omega (arith, c.ranges.number.fits)) places
          (w.without_last.ensures
          ∙ ap (λ k. c.args.number / 10 ^ k) (again ∙ sym places)) c.split_at.ensures.by_index.0
          (omega (arith, c.split_at.ensures.back_len, c.if-text-places.false))
          (w.value-is ∙ w.is_decimal.ensures) c.if-is_decimal.false
      | else-rest-eq46 w ↦
          no_point _ c.args.number c.unsigned_abs-places.result _ _ c.split_at.result.1.now _ above
          (omega (arith, c.ranges.number.fits)) places c.split_at.ensures.by_index.0
          (omega (
            arith,
            c.split_at.ensures.back_len,
            c.if-text-places.false,
          )) w.if-rest-eq46.false c.if-is_decimal.false
    ]

pub returns-then-is_decimal-2 : goal.returns-then-is_decimal-2
returns-then-is_decimal-2 c =
    let fits : FitsSigned w32 c.args.scale = search rules in
    let places = simp to_z-of_z at c.unsigned_abs-places.ensures.value in
    let above = simp to_z-of_z at c.if-scale-gt0.false in
    whole_true _ _ _ _ _ _ _ _ _ above c.if-number-eq0.false places c.split_at-2.ensures.front
    c.split_at-2.ensures.back
    (omega (
      arith,
      c.split_at-2.ensures.back_len,
      c.if-text-places-2.false,
    )) c.is_decimal-2.ensures c.if-is_decimal-2.true
    (c.are_last_digits-then-is_decimal-2.ensures
    ∙ ap (λ ds. bytes_eq ds c.split_at-2.result.1.now) (zero_places _))

pub returns-else-is_decimal-2 : goal.returns-else-is_decimal-2
returns-else-is_decimal-2 c =
    let fits : FitsSigned w32 c.args.scale = search rules in
    let places = simp to_z-of_z at c.unsigned_abs-places.ensures.value in
    let above = simp to_z-of_z at c.if-scale-gt0.false in
    whole_false _ _ _ _ _ _ _ _ above c.if-number-eq0.false places c.split_at-2.ensures.front
    c.split_at-2.ensures.back
    (omega (
      arith,
      c.split_at-2.ensures.back_len,
      c.if-text-places-2.false,
    )) c.is_decimal-2.ensures c.if-is_decimal-2.false
