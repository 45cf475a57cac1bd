-- What begins the bits left, for `BitReader`.
use Rattle.std.proofs.Common.{◌≡◌, ℕ, ◌+◌, ◌-◌, ◌*◌, ◌<◌, ◌≤◌, true, false, ltb, List, Some, None}
use Rattle.std.proofs.Common.{length, take, drop, refl, arith, length-drop}
use Rattle.std.proofs.lemmas.Bool.{le-ltb, lt-ltb}
use Rattle.std.proofs.lemmas.List.{drop-drop}
use Rattle.bufr_bits.specs.Bits.{bits, number, numbers, number_at, numbers_at, octets_at}
use Rattle.bufr_bits.specs.OctetLaws.{length-bits}

pub length-left : (octets : List ℕ) (place : ℕ)
    → length (drop place (bits octets)) ≡ 8 * length octets - place
length-left octets place = omega (arith, length-drop place (bits octets), length-bits octets)

pub number_found : (octets : List ℕ) (place width n : ℕ) → place + width ≤ 8 * length octets
    → n ≡ number (take width (drop place (bits octets)))
    → number_at width (drop place (bits octets)) ≡ Some (n, drop (place + width) (bits octets))
unfolding number_at
number_found octets place width n within is =
    let long : ltb (length (drop place (bits octets))) width ≡ false =
    le-ltb _ _ (omega (arith, length-left octets place)) in
    rw (long, is, drop-drop width place (bits octets)) refl

pub number_missing : (octets : List ℕ) (place width : ℕ) → 8 * length octets < place + width
    → place ≤ 8 * length octets → number_at width (drop place (bits octets)) ≡ None
unfolding number_at
number_missing octets place width short within =
    let few : ltb (length (drop place (bits octets))) width ≡ true =
    lt-ltb _ _ (omega (arith, length-left octets place)) in
    rw few refl

pub octets_found : (octets : List ℕ) (place n end : ℕ) (found : List ℕ) → place + 8 * n ≡ end
    → end ≤ 8 * length octets → found ≡ numbers n 8 (drop place (bits octets))
    → octets_at n (drop place (bits octets)) ≡ Some (found, drop end (bits octets))
unfolding numbers_at
octets_found octets place n end found e within is =
    let long : ltb (length (drop place (bits octets))) (n * 8) ≡ false =
    le-ltb _ _ (omega (arith, length-left octets place)) in
    let after : place + n * 8 ≡ end = omega arith in
    rw (long, is, drop-drop (n * 8) place (bits octets), after) refl

pub octets_missing : (octets : List ℕ) (place n : ℕ) → 8 * length octets < place + 8 * n
    → place ≤ 8 * length octets → octets_at n (drop place (bits octets)) ≡ None
unfolding numbers_at
octets_missing octets place n short within =
    let few : ltb (length (drop place (bits octets))) (n * 8) ≡ true =
    lt-ltb _ _ (omega (arith, length-left octets place)) in
    rw few refl
