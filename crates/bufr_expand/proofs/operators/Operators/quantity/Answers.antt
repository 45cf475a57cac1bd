-- No step of the arithmetic overflows its type.
use Rattle.std.proofs.Common.{rules, refl, ℕ, ◌≡◌, ◌*ℤ◌, ◌+ℤ◌, ◌^◌, ◌*◌, ◌+◌, ◌/◌, pos}
use Rattle.std.proofs.Common.{Option, Some, None, FitsSigned, w32, w64, to_z, of_z, ap, ◌∙◌, arith}
use Rattle.std.proofs.Common.{ℤ, negsuc, ◌<◌, ◌≤◌, ◌≤ℤ◌}
use Rattle.std.proofs.Common.{false, sym, subst, MatchOption}
use Rattle.std.specs.Option.{SomeIff}
use Rattle.std.proofs.lemmas.Bool.{cond_both}
use Rattle.std.specs.Option.{unwrap_or}
use Rattle.std.proofs.lemmas.Int.{to_z-of_z, to_z_pos, ints}
use Rattle.bufr_expand.specs.OperatorsInForce.{is_within, increase_of, widening}
use Rattle.bufr_tables.specs.declared.element.Element.{Element}
use Rattle.bufr_tables.specs.declared.element.Kind.{Kind}
use Rattle.bufr_tables.specs.declared.element.Kind.TheVariants as kinds
use Rattle.bufr_expand.specs.Limits.{most_reference, most_scale}
use Rattle.bufr_expand.specs.declared.operators.Operators.{Operators}
use Rattle.bufr_expand.specs.OperatorsInForce as operating
use Rattle.bufr_expand.specs.OperatorsInForce.{number_spec, quantity}
use Rattle.bufr_expand.proofs.Powers.{outside_times, checked_is, ten_power_below, decides_within}
use Rattle.bufr_expand.proofs.operators.Operators.quantity.Goals as goal
use Rattle.bufr_expand.proofs.operators.Operators.quantity.Goals.{then-increase-eq0}
use Rattle.bufr_expand.proofs.operators.Operators.quantity.Goals.{else-increase-eq0+then-element-eq0}
use Rattle.bufr_expand.proofs.operators.Operators.quantity.Goals.{else-increase-eq0+else-element-eq0+else-increase-gt18+in_ok-reference}

widening_is : (o : Option ℕ) → (10 * increase_of o + 2) / 3 ≡ widening o
widening_is None = refl
widening_is (Some y) = refl

increase_is : (o : Option ℕ) → unwrap_or o 0 ≡ increase_of o
increase_is None = refl
increase_is (Some y) = refl

width_is : (n k : ℕ) (a : ℤ) → n < 4294967296 → k ≤ 850 → negsuc 127 ≤ℤ a → a ≤ℤ pos 127
    → to_z w64 (of_z w64 (to_z w64 (of_z w64 (to_z w64 (of_z w64 (pos n))
    +ℤ to_z w64 (of_z w64 a))) +ℤ to_z w64 (of_z w64 (pos k)))) ≡ pos n +ℤ a +ℤ pos k
width_is n k a h i j l = omega (arith, ints)

number_none : (kind : Kind) (scale reference width : ℤ) → is_within most_reference reference ≡ false
    → number_spec kind scale reference width ≡ None
number_none kind scale reference (negsuc width) h = refl
number_none kind scale reference (pos width) h = search rules

quantity_none : (row : Element) (q : Operators) (power : ℕ) → power ≡ increase_of q.increase
    → is_within most_reference (row.reference *ℤ pos (10 ^ power)) ≡ false → None ≡ quantity row q
quantity_none row q power e h =
    sym (cond_both (is_within most_scale row.scale) _ None (λ o. o ≡ None)
    (λ _. number_none kinds.Quantity
    (row.scale +ℤ operating.added q.add_scale +ℤ pos (increase_of q.increase))
    (row.reference *ℤ pos (10 ^ increase_of q.increase))
    (pos row.width +ℤ operating.added q.add_width +ℤ pos (widening q.increase)) (rw e at h)) (λ _. refl))

power_is : (y power : ℕ) (q : Operators) → power ≡ y → y ≡ unwrap_or q.increase 0
    → power ≡ increase_of q.increase
power_is y power q e f = e ∙ f ∙ increase_is q.increase

pub returns-then-increase-gt18 : goal.returns-then-increase-gt18
returns-then-increase-gt18 c =
    let row = c.args.element.now in
    quantity_none row c.args.self.now c.from-increase.result
    (power_is _ _ c.args.self.now c.from-increase.ensures c.unwrap_or.ensures)
    (outside_times row.reference c.from-increase.result
    (λ e. c.if-element-eq0.false (ap (of_z w64) e)) c.if-increase-gt18.true)

pub overflow_cast-pow : goal.overflow_cast-pow
overflow_cast-pow c =
    let h = ten_power_below c.from-increase.result c.if-increase-gt18.false in
    search (rules, h, c.pow.ensures)

product_is : (o : Option ℤ) (r : ℤ) (k y : ℕ) → FitsSigned w64 r → y ≤ 18 → k ≡ 10 ^ y
    → SomeIff o (FitsSigned w64 (to_z w64 (of_z w64 r) *ℤ to_z w64 k))
    (to_z w64 (of_z w64 r) *ℤ to_z w64 k)
    → MatchOption o (is_within most_reference (r *ℤ pos (10 ^ y)) ≡ false) (λ p. p ≡ r *ℤ pos (10 ^ y))
product_is o r k y fits below power h =
    let ten = ten_power_below y below in
    let small : k < 9223372036854775808 = omega (arith, power, ten) in
    checked_is o (r *ℤ pos (10 ^ y)) (rw (to_z-of_z w64 r fits, to_z_pos w64 k small ∙ ap pos power) at h)

none_times : (r : ℤ) (k : ℕ) → FitsSigned w64 r → of_z w64 r ≡ 0 → pos 0 ≡ r *ℤ pos k
none_times r k fits e =
    let none : r ≡ pos 0 = sym (to_z-of_z w64 r fits) ∙ ap (to_z w64) e in
    rw none (search rules)

once : (r : ℤ) (y : ℕ) → y ≡ 0 → r ≡ r *ℤ pos (10 ^ y)
once r y e = rw e (search rules)

pub returns-in_err-reference : goal.returns-in_err-reference
returns-in_err-reference c =
    let row = c.args.element.now in
    let y = c.from-increase.result in
    let fits : FitsSigned w64 row.reference = search rules in
    let is = product_is c.checked_mul.result row.reference c.pow.result y fits
    c.if-increase-gt18.false c.pow.ensures c.checked_mul.ensures in
    let P : Option ℤ → Type 0 = λ o. MatchOption o
    (is_within most_reference (row.reference *ℤ pos (10 ^ y)) ≡ false)
    (λ p. p ≡ row.reference *ℤ pos (10 ^ y)) in
    c.from_residual.ensures
    ∙ quantity_none row c.args.self.now y
    (power_is _ _ c.args.self.now c.from-increase.ensures c.unwrap_or.ensures)
    (subst P c.in_err-reference.was is)

pub returns : goal.returns
returns c =
    let row = c.args.element.now in
    let q = c.args.self.now in
    let y = c.from-increase.result in
    let same : to_z w64 (of_z w64 c.from.result) ≡ row.scale = omega (arith, ints) in
    let inside = (decides_within 127 row.scale).1
    (rw (c.unsigned_abs.ensures.value, same) at c.if-unsigned_abs-gt-MOST_SCALE.false) in
    let inc = power_is _ _ q c.from-increase.ensures c.unwrap_or.ensures in
    let fits : FitsSigned w64 row.reference = search rules in
    let kept = sym c.if-increase-eq0.reference-is in
    let reference : c.if-increase-eq0.reference ≡ row.reference *ℤ pos (10 ^ y) =
    elim c.if-increase-eq0.branch [
      | then-increase-eq0 w ↦
          kept ∙ w.reference-is ∙ to_z-of_z w64 row.reference fits
          ∙ once row.reference y w.if-increase-eq0.true
      | else-increase-eq0+then-element-eq0 w ↦
          kept ∙ w.reference-is
          ∙ none_times row.reference (10 ^ y) fits w.if-element-eq0.true
      | else-increase-eq0+else-element-eq0+else-increase-gt18+in_ok-reference w ↦
          let fit : FitsSigned w64 w.in_ok-reference.reference = search rules in
          let is = product_is w.checked_mul.result row.reference w.pow.result y fits
          w.if-increase-gt18.false w.pow.ensures w.checked_mul.ensures in
          let P : Option ℤ → Type 0 = λ o. MatchOption o
          (is_within most_reference (row.reference *ℤ pos (10 ^ y)) ≡ false)
          (λ p. p ≡ row.reference *ℤ pos (10 ^ y)) in
          kept ∙ w.reference-is ∙ to_z-of_z w64 w.in_ok-reference.reference fit
          ∙ subst P w.in_ok-reference.was is
    ] in
    let scale : to_z w32 (of_z w32 (to_z w32 (of_z w32 (to_z w32 (of_z w32 row.scale)
    +ℤ to_z w32 (of_z w32 c.added.result))) +ℤ to_z w32 y)) ≡ row.scale +ℤ c.added.result +ℤ pos y =
    omega (arith, ints) in
    let added : c.from-3.result ≡ c.added-2.result = omega (arith, ints) in
    let width = width_is row.width ((10 * y + 2) / 3) c.added-2.result (omega arith)
    (omega arith) c.added-2.ensures.low c.added-2.ensures.high in
    let spec = rw (
      scale,
      c.if-increase-eq0.reference-is,
      c.from-2.ensures,
      added,
      c.from-4.ensures,
      width,
    ) at c.number_spec.ensures in
    rw (
      inside,
      spec,
      reference,
      c.added.ensures.value,
      inc,
      c.added-2.ensures.value,
      widening_is q.increase,
    ) refl
