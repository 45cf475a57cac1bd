-- Each octet is joined from two neighbours.
use Rattle.std.proofs.Common.{◌≡◌, ℕ, ◌+◌, ◌-◌, ◌*◌, ◌/◌, ◌%◌, ◌^◌, ◌<◌, List, [], ◌∷◌, ◌++◌}
use Rattle.std.proofs.Common.{length, drop, get_or, arith, sym}
use Rattle.bufr_bits.specs.Bits.{bits, numbers}
use Rattle.bufr_bits.proofs.BitLists.{numbers-more, number_of_two}
use Rattle.bufr_bits.proofs.octets.shifted.Goals as goal

step : (octets before after : List ℕ) (i shift a b : ℕ) → i + 1 < length octets → shift < 8
    → before ≡ numbers i 8 (drop shift (bits octets)) → a ≡ get_or octets i 0
    → b ≡ get_or octets (i + 1) 0 → a < 256 → b < 256
    → after ≡ before ++ (a * 256 + b) / 2 ^ (8 - shift) % 256 ∷ []
    → after ≡ numbers (i + 1) 8 (drop shift (bits octets))
step octets before after i shift a b within inside so_far a_is b_is a_small b_small next =
    rw (
      next,
      so_far,
      number_of_two octets i shift (8 - shift) a b (omega arith) within a_is b_is a_small b_small,
    )
    (sym (numbers-more i 8 (8 * i) (drop shift (bits octets)) (omega arith)))

pub loop-i-init : goal.loop-i-init
unfolding numbers
loop-i-init c = c.in_ok-out.ensures.items

pub loop-i-preserved : goal.loop-i-preserved
loop-i-preserved c =
    let octets = c.args.octets.now in
    let a = c.from.result in
    let b = c.from-in-loop-i.result in
    step octets c.loop-i.out.items c.push.new.self.items c.loop-i.i c.args.shift a b
    (omega (arith, c.requires)) (omega (arith, c.requires)) c.loop-i.invariant
    c.from.ensures c.from-in-loop-i.ensures
    (omega (arith, c.type_inv.octets c.loop-i.i, c.from.ensures))
    (omega (
      arith,
      c.type_inv.octets (c.loop-i.i + 1),
      c.from-in-loop-i.ensures,
    )) c.in_ok-push.ensures.items
