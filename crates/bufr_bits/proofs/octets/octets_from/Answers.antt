-- A slice if the place is a multiple of 8, else the octets that `shifted` joins.
use Rattle.std.proofs.Common.{◌≡◌, ℕ, ◌+◌, ◌-◌, ◌*◌, ◌/◌, ◌%◌, ◌<◌, ◌≤◌, List, length, take, drop}
use Rattle.std.proofs.Common.{get_or, arith, sym, subst, IfOk, refl}
use Rattle.std.proofs.lemmas.List.{drop-drop, take_rest}
use Rattle.bufr_bits.specs.Bits.{bits, numbers}
use Rattle.bufr_bits.proofs.BitLists.{numbers_aligned, drop-bits}
use Rattle.bufr_bits.proofs.octets.octets_from.Goals as goal

aligned : (octets : List ℕ) (place n : ℕ) → place % 8 ≡ 0 → place + 8 * n ≤ 8 * length octets
    → ((i : ℕ) → get_or octets i 0 < 256)
    → take (place / 8 + n - place / 8) (drop (place / 8) octets)
    ≡ numbers n 8 (drop place (bits octets))
aligned octets place n edge within small =
    let count : place / 8 + n - place / 8 ≡ n = omega arith in
    rw count (sym (numbers_aligned octets (place / 8) n place (omega arith) (omega arith) small))

inside : (octets : List ℕ) (place n : ℕ) → place + 8 * n ≤ 8 * length octets
    → numbers n 8 (drop (place % 8) (bits (take (length octets - place / 8)
    (drop (place / 8) octets)))) ≡ numbers n 8 (drop place (bits octets))
inside octets place n within =
    let there : 8 * (place / 8) + place % 8 ≡ place = omega arith in
    rw (
      take_rest octets (place / 8),
      ← drop-bits (place / 8) (8 * (place / 8)) octets refl (omega arith),
      drop-drop (place % 8) (8 * (place / 8)) (bits octets),
      there,
    ) refl

pub returns-then-shift-eq0 : goal.returns-then-shift-eq0
returns-then-shift-eq0 c =
    subst (λ (xs : List ℕ). IfOk c.from_slice.result (λ v. v.items ≡ xs))
    (aligned c.args.octets.now c.args.place c.args.n c.if-shift-eq0.true c.requires
    (λ i. omega (arith, c.type_inv.octets i)))
    c.from_slice.ensures.items

pub returns : goal.returns
returns c =
    subst (λ (xs : List ℕ). IfOk c.shifted.result (λ v. v.items ≡ xs))
    (inside c.args.octets.now c.args.place c.args.n c.requires) c.shifted.ensures
