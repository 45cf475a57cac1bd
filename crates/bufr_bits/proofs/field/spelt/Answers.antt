-- The total is the number of the octets read, and sixteen octets fit in 128 bits.
use Rattle.std.proofs.Common.{◌≡◌, ℕ, ◌+◌, ◌*◌, ◌^◌, ◌<◌, ◌≤◌, ◌∷◌, [], ◌++◌, List, length, take}
use Rattle.std.proofs.Common.{refl, sym, ap, ◌∙◌, arith, get_or}
use Rattle.std.proofs.lemmas.List.{take_more, length-take-le}
use Rattle.bufr_bits.specs.Bits.{bits, number}
use Rattle.bufr_bits.proofs.BitLists.{number_push, number_of_octets}
use Rattle.bufr_bits.proofs.field.spelt.Goals as goal

small : (octets : List ℕ) (i total : ℕ) → total ≡ number (bits (take i octets)) → i < length octets
    → length octets ≤ 16 → total < 2 ^ 120
small octets i total e before few =
    let fewer : length (take i octets) ≤ 15 = omega (arith, length-take-le i octets) in
    let below : number (bits (take i octets)) < 2 ^ 120 =
    number_of_octets (take i octets) 15 fewer in
    omega arith

more : (octets : List ℕ) (i total x : ℕ) → total ≡ number (bits (take i octets)) → i < length octets
    → x ≡ get_or octets i 0 → x < 256 → total * 256 + x ≡ number (bits (take (i + 1) octets))
more octets i total x e before is small =
    let next : take (i + 1) octets ≡ take i octets ++ x ∷ [] =
    take_more octets i 0 before ∙ ap (λ y. take i octets ++ y ∷ []) (sym is) in
    rw (next, number_push (take i octets) x small, e) refl

pub loop-octet-init : goal.loop-octet-init
unfolding number
loop-octet-init c = refl

pub overflow_mul-total : goal.overflow_mul-total
overflow_mul-total c =
    omega (
      arith,
      small c.args.octets.now c.loop-octet.octet-index c.loop-octet.total c.loop-octet.invariant
          c.loop-octet-test.true c.requires,
    )

pub overflow_add-total : goal.overflow_add-total
overflow_add-total c =
    omega (
      arith,
      small c.args.octets.now c.loop-octet.octet-index c.loop-octet.total c.loop-octet.invariant
          c.loop-octet-test.true c.requires,
      c.type_inv.octets c.loop-octet.octet-index,
    )

pub loop-octet-preserved : goal.loop-octet-preserved
loop-octet-preserved c =
    more c.args.octets.now c.loop-octet.octet-index c.loop-octet.total c.from.result
    c.loop-octet.invariant c.loop-octet-test.true c.from.ensures
    (omega (arith, c.type_inv.octets c.loop-octet.octet-index))
