-- Four octets that hold the field spell its number after a shift and a mask.
use Rattle.std.proofs.Common.{◌≡◌, ℕ, ◌+◌, ◌-◌, ◌/◌, ◌%◌, ◌^◌, take, drop, ap, subst, ◌∙◌, arith}
use Rattle.std.specs.Prelude.{bit_and}
use Rattle.std.proofs.lemmas.Nat.{one_shl}
use Rattle.bufr_bits.specs.Bits.{bits, number}
use Rattle.bufr_bits.proofs.BitLists.{field_masked, short_below}
use Rattle.bufr_bits.proofs.field.short_field.Goals as goal

pub returns-then-first-octets : goal.returns-then-first-octets
returns-then-first-octets c =
    let octets = c.args.octets.now in
    let place = c.args.place in
    let width = c.args.width in
    let first = place / 8 in
    let spare = 32 - place % 8 - width in
    let four : 4 ≡ first + 4 - first = omega arith in
    let long = c.if-octets-ge4.true in
    let there = c.if-first-octets.true in
    let narrow = c.requires.narrow in
    let field = number (take width (drop place (bits octets))) in
    rw (c.from.ensures, c.requires.ones)
    (subst (λ k. bit_and (c.half_word_at.result / 2 ^ spare) (k - 1) ≡ field)
    (one_shl width 32 (omega (arith, narrow)))
    (field_masked octets c.half_word_at.result first (first + 4) place width spare 32
    (c.half_word_at.ensures ∙ ap (λ (k : ℕ). number (bits (take k (drop first octets)))) four)
    (omega arith) (omega (arith, narrow)) (omega (arith, long, there)) (omega (arith, narrow))))

pub overflow_cast-result-2 : goal.overflow_cast-result-2
overflow_cast-result-2 c =
    let small = short_below c.args.width c.args.place c.args.octets.now c.requires.narrow in
    omega (arith, small, c.field_by_octets.ensures)
