-- Eight octets that hold the field spell its number after a shift and a mask.
use Rattle.std.proofs.Common.{◌≡◌, ℕ, ◌+◌, ◌-◌, ◌*◌, ◌/◌, ◌%◌, take, drop, ap, ◌∙◌, arith}
use Rattle.bufr_bits.specs.Bits.{bits, number}
use Rattle.bufr_bits.proofs.BitLists.{field_masked}
use Rattle.bufr_bits.proofs.field.field.Goals as goal

pub returns-then-octets-ge8 : goal.returns-then-octets-ge8
returns-then-octets-ge8 c =
    let octets = c.args.octets.now in
    let place = c.args.place in
    let first = c.min-first.result in
    let eight : 8 ≡ first + 8 - first = omega arith in
    let narrow = c.if-width-le-MOST_BITS_IN_A_WORD.true in
    let least = c.min-first.ensures in
    let long = c.if-octets-ge8.true in
    field_masked octets c.word_at.result first (first + 8) place c.args.width
    (64 - (8 * (place / 8 - first) + place % 8) - c.args.width) 64
    (c.word_at.ensures ∙ ap (λ (k : ℕ). number (bits (take k (drop first octets)))) eight)
    (omega (arith, least)) (omega (arith, narrow, least, long, c.requires))
    (omega (arith, least, long)) (omega (arith, narrow))
