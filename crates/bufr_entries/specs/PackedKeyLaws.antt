-- Packed keys compare as the keys do.
use Rattle.std.proofs.Common.{◌≡◌, ℕ, suc, ◌+◌, ◌*◌, ◌/◌, ◌%◌, ◌^◌, ◌<◌, ap, sym, ◌∙◌, refl, arith, div-one}
use Rattle.std.proofs.lemmas.Nat.{mod-pow-add, mod_below, pow_pos}
use Rattle.std.proofs.Math.Nat.{mod-eq_of_lt, mul-le-mul_right, suc-mul}
use Rattle.std.proofs.lemmas.Cmp.{ranked}
use Rattle.std.specs.Cmp.{nat_cmp_is}
use Rattle.std.specs.Ordering.{MatchOrdering, nat_cmp, ordering_then}
use Rattle.std.specs.declared.cmp.Ordering.{Ordering}
use Rattle.std.specs.declared.cmp.Ordering.TheVariants.{Less, Equal, Greater}
use Rattle.bufr_entries.specs.KeyOrders.{moment_cmp, key_cmp}
use Rattle.bufr_entries.specs.FrontLaws.{in_turn, same_signed}
use Rattle.bufr_entries.specs.PackedKeys.{bits, wmo_key, wmo_moment}
use Rattle.bufr_entries.specs.declared.packed_key.WmoWords.{WmoWords}

before : (k x y u v : ℕ) → y < k → x < u → x * k + y < u * k + v
before k x y u v a h = omega (arith, mul-le-mul_right {m = suc x} {n = u} k h, suc-mul x k)

in_parts : (k x y u v : ℕ) → y < k → v < k → (o p : Ordering)
    → MatchOrdering o (x < u) (x ≡ u) (u < x) → MatchOrdering p (y < v) (y ≡ v) (v < y)
    → MatchOrdering (ordering_then o p) (x * k + y < u * k + v) (x * k + y ≡ u * k + v)
    (u * k + v < x * k + y)
in_parts k x y u v a b Less p h g = before k x y u v a h
in_parts k x y u v a b Equal Less h g = omega (arith, ap (λ z. z * k) h)
in_parts k x y u v a b Equal Equal h g = cc
in_parts k x y u v a b Equal Greater h g = omega (arith, ap (λ z. z * k) h)
in_parts k x y u v a b Greater p h g = before k u v x y b h

two_parts : (k x y u v : ℕ) → y < k → v < k
    → nat_cmp (x * k + y) (u * k + v) ≡ ordering_then (nat_cmp x u) (nat_cmp y v)
two_parts k x y u v a b =
    sym (nat_cmp_is (x * k + y) (u * k + v) _
    (in_parts k x y u v a b (nat_cmp x u) (nat_cmp y v) (ranked x u _ refl) (ranked y v _ refl)))

part : {rest : Ordering} (a b from count : ℕ) → nat_cmp (a % 2 ^ from) (b % 2 ^ from) ≡ rest
    → nat_cmp (a % 2 ^ (count + from)) (b % 2 ^ (count + from))
    ≡ ordering_then (nat_cmp (bits a from count) (bits b from count)) rest
part a b from count below =
    rw (mod-pow-add a count from, mod-pow-add b count from)
    (two_parts (2 ^ from) _ _ _ _ (mod_below a (2 ^ from) (pow_pos from))
    (mod_below b (2 ^ from) (pow_pos from)))
    ∙ ap (ordering_then (nat_cmp (bits a from count) (bits b from count))) below

lowest : (a b count : ℕ) → nat_cmp (a % 2 ^ count) (b % 2 ^ count)
    ≡ nat_cmp (bits a 0 count) (bits b 0 count)
lowest a b count = rw (div-one a, div-one b) refl

whole : (a b : ℕ) → a < 2 ^ 64 → b < 2 ^ 64 → nat_cmp a b ≡ nat_cmp (a % 2 ^ 64) (b % 2 ^ 64)
whole a b p q = sym (ap (λ z. nat_cmp z (b % 2 ^ 64)) (mod-eq_of_lt p) ∙ ap (nat_cmp a) (mod-eq_of_lt q))

high_in_turn : (a b : ℕ) → a < 2 ^ 64 → b < 2 ^ 64 → nat_cmp a b
    ≡ ordering_then (nat_cmp (bits a 48 16) (bits b 48 16))
    (ordering_then (nat_cmp (bits a 40 8) (bits b 40 8))
    (ordering_then (nat_cmp (bits a 32 8) (bits b 32 8))
    (ordering_then (nat_cmp (bits a 24 8) (bits b 24 8))
    (ordering_then (nat_cmp (bits a 8 16) (bits b 8 16)) (nat_cmp (bits a 0 8) (bits b 0 8))))))
high_in_turn a b p q =
    whole a b p q ∙ part a b 48 16 (part a b 40 8 (part a b 32 8 (part a b 24 8
    (part a b 8 16 (lowest a b 8)))))

low_in_turn : (a b : ℕ) → a < 2 ^ 64 → b < 2 ^ 64 → nat_cmp a b
    ≡ ordering_then (nat_cmp (bits a 56 8) (bits b 56 8))
    (moment_cmp (wmo_moment a) (wmo_moment b))
low_in_turn a b p q =
    whole a b p q ∙ part a b 56 8 (part a b 40 16 (part a b 32 8 (part a b 24 8 (part a b 16 8
    (part a b 8 8 (lowest a b 8))))))

number_in_turn : (a b c d : ℕ)
    → nat_cmp (bits a 0 8 * 2 ^ 8 + bits c 56 8) (bits b 0 8 * 2 ^ 8 + bits d 56 8)
    ≡ ordering_then (nat_cmp (bits a 0 8) (bits b 0 8)) (nat_cmp (bits c 56 8) (bits d 56 8))
number_in_turn a b c d =
    two_parts (2 ^ 8) (bits a 0 8) (bits c 56 8) (bits b 0 8) (bits d 56 8)
    (mod_below (c / 2 ^ 56) (2 ^ 8) (pow_pos 8)) (mod_below (d / 2 ^ 56) (2 ^ 8) (pow_pos 8))

pub wmo_keys_are : (a b : WmoWords) (s t : ℕ) → a.high < 2 ^ 64 → b.high < 2 ^ 64
    → a.low < 2 ^ 64 → b.low < 2 ^ 64
    → ordering_then (ordering_then (nat_cmp a.high b.high) (nat_cmp a.low b.low)) (nat_cmp s t)
    ≡ key_cmp (wmo_key a s) (wmo_key b t)
wmo_keys_are a b s t p q r u =
    rw (same_signed (bits a.high 8 16) (bits b.high 8 16))
    (rw (same_signed (bits a.high 0 8 * 2 ^ 8 + bits a.low 56 8)
    (bits b.high 0 8 * 2 ^ 8 + bits b.low 56 8))
    (rw (
      high_in_turn a.high b.high p q,
      low_in_turn a.low b.low r u,
      number_in_turn a.high b.high a.low b.low,
    )
    (simp in_turn)))

pub wmo_ranks : (a b : WmoWords) (s t : ℕ) → a.high < 2 ^ 64 → b.high < 2 ^ 64
    → a.low < 2 ^ 64 → b.low < 2 ^ 64 → (o : Ordering)
    → MatchOrdering o (a.high * 2 ^ 64 + a.low < b.high * 2 ^ 64 + b.low)
    (a.high * 2 ^ 64 + a.low ≡ b.high * 2 ^ 64 + b.low)
    (b.high * 2 ^ 64 + b.low < a.high * 2 ^ 64 + a.low)
    → ordering_then o (nat_cmp s t) ≡ key_cmp (wmo_key a s) (wmo_key b t)
wmo_ranks a b s t p q r u o ranked =
    ap (λ x. ordering_then x (nat_cmp s t))
    (nat_cmp_is (a.high * 2 ^ 64 + a.low) (b.high * 2 ^ 64 + b.low) o ranked
    ∙ two_parts (2 ^ 64) a.high a.low b.high b.low r u)
    ∙ wmo_keys_are a b s t p q r u
