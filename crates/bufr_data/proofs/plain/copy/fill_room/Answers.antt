-- Each turn puts one word after the whole octets of the words before it.
use Rattle.std.proofs.Common.{◌≡◌, ◌+◌, ◌-◌, ◌%◌, ◌<◌, ◌≤◌, ◌*◌, ◌^◌, ◌++◌, ◌∙◌, ap, arith, drop, length}
use Rattle.std.proofs.Common.{take}
use Rattle.std.proofs.lemmas.Nat.{shl_whole}
use Rattle.bufr_bits.specs.Bits.{bin, bits}
use Rattle.bufr_bits.specs.BitLaws.{number_at_is}
use Rattle.bufr_data.proofs.PlainFacts.Filled.{eight_octets, left_there, one_more_filled}
use Rattle.bufr_data.proofs.plain.copy.fill_room.Goals as goal

pub take_left-requires-clause-enough : goal.take_left-requires-clause-enough
take_left-requires-clause-enough c =
    let there =
    left_there c.args.octets.now c.args.from c.args.end c.loop-left.at c.loop-left.left
    c.loop-left.reader c.loop-left.room c.requires.inside c.loop-left.invariant in
    omega (arith, there, c.min-width.ensures)

pub loop-left-preserved : goal.loop-left-preserved
loop-left-preserved c =
    let w = c.min-width.result in
    let n = c.take_left.result in
    let small : n < 2 ^ w = (number_at_is w n _ _ c.take_left.ensures.found).1 in
    let narrow : w ≤ 56 = omega (arith, c.min-width.ensures) in
    let some : 0 < c.loop-left.left = omega (arith, c.loop-left-test.true) in
    let few : w ≤ c.loop-left.left = omega (arith, c.min-width.ensures) in
    let last : 0 < c.loop-left.left - w → w ≡ 56 =
    λ more. omega (arith, more, c.min-width.ensures) in
    let eight = c.copy_from_slice.new.self in
    let whole : n * 2 ^ (64 - w) % 2 ^ 64 ≡ n * 2 ^ (64 - w) =
    shl_whole n w (64 - w) 64 small (omega (arith, narrow)) in
    let word : bits eight ≡ bin 64 (n * 2 ^ (64 - w)) =
    eight_octets _ eight (c.copy_from_slice.ensures.after ∙ c.to_be_bytes.ensures) ∙ ap (bin 64) whole in
    let size : length eight ≡ 8 =
    ap length (c.copy_from_slice.ensures.after ∙ c.to_be_bytes.ensures) in
    let at = c.loop-left.at in
    let begun : 0 < c.loop-left.left → 8 * at ≡ c.loop-left.reader.place - c.args.from =
    c.loop-left.invariant.whole in
    let long : at + 8 ≤ 71 =
    omega (
      arith,
      begun some,
      c.loop-left.invariant.before,
      c.if-bits-gt-MOST_FILLED_BITS.false,
    ) in
    let one_word : at + 8 - at ≡ 8 = omega arith in
    one_more_filled c.args.octets.now c.args.from c.args.end c.loop-left.at c.loop-left.left w n
    c.loop-left.reader c.take_left.new.self c.loop-left.room eight _ c.requires.inside
    c.loop-left.invariant some few narrow last c.take_left.ensures.found
    c.take_left.ensures.moved size word long
    (ap (λ m. take at c.loop-left.room ++ (eight ++ drop m (drop at c.loop-left.room))) one_word)
