-- Laws of one number in a field, for `laws` and for all who read or write fields.
use Rattle.std.proofs.Common.{◌≡◌, ℕ, zero, suc, ◌+◌, ◌*◌, ◌/◌, ◌%◌, ◌^◌, ◌<◌, ◌≤◌, Bool, true}
use Rattle.std.proofs.Common.{false, cond, ltb, List, [], ◌∷◌, ◌++◌, length, take, drop, Some, refl}
use Rattle.std.proofs.Common.{sym, ap, subst, ◌∙◌, arith, length-append, inl, inr}
use Rattle.std.specs.Prelude.{◌==◌}
use Rattle.std.specs.Int.{bit_at}
use Rattle.std.proofs.Math.Pow.{split}
use Rattle.std.proofs.Math.Nat.{pow-suc, mul-add-mod_self_right}
use Rattle.std.proofs.lemmas.Nat.{same_from_place, mod_below}
use Rattle.std.proofs.lemmas.Bool.{cases_lt, le-ltb, lt-ltb}
use Rattle.std.proofs.lemmas.List.{take_at, drop_at, take-append-drop, length-take}
use Rattle.bufr_bits.specs.Bits.{bin, number, number_at}

-- equal answers have equal values
pub some_is : {A : Type 0} (x y : A) → Some x ≡ Some y → x ≡ y
some_is x y e = cc

-- a field has as many bits as its width
pub length-bin : (w n : ℕ) → length (bin w n) ≡ w
unfolding bin
length-bin zero n = refl
length-bin (suc w) n = ap suc (length-bin w n)

-- n bits spell a number below 2 to the power of n
pub number_below : (bs : List Bool) → number bs < 2 ^ length bs
unfolding number
number_below [] = omega arith
number_below (true ∷ bs) = let h = number_below bs in let e = pow-suc 2 (length bs) in omega arith
number_below (false ∷ bs) = let h = number_below bs in let e = pow-suc 2 (length bs) in omega arith

-- what one bit adds to a number
bit_worth : (b p : ℕ) → b < 2 → cond (b == 1) p 0 ≡ b * p
bit_worth zero p h = omega arith
bit_worth (suc zero) p h = omega arith
bit_worth (suc (suc b)) p h = absurd (omega arith)

-- a number below the divisor is its own remainder
pub small_mod : (m p : ℕ) → m < p → m % p ≡ m
small_mod m p h =
    let positive : 0 < p = omega arith in
    (same_from_place (m / p) (m % p) 0 m p (mod_below m p positive) h (omega arith)).1

-- a bit adds at most the worth of its place
bit_small : (b p : ℕ) → b < 2 → b * p ≤ p
bit_small zero p h = omega arith
bit_small (suc zero) p h = omega arith
bit_small (suc (suc b)) p h = absurd (omega arith)

-- the remainder by twice a power, from the next bit and the remainder by the power
split_again : (n p q m h b : ℕ)
    → q * p + m ≡ n → m < p → q ≡ 2 * h + b → b < 2 → n % (p * 2) ≡ b * p + m
split_again n p q m h b whole small halves bit =
    let e1 : q * p ≡ (2 * h + b) * p = ap (λ x. x * p) halves in
    let e2 : h * (p * 2) + (b * p + m) ≡ n = omega (arith, e1) in
    let le = bit_small b p bit in
    let lt : b * p + m < p * 2 = omega arith in
    rw (← e2, mul-add-mod_self_right h (p * 2) (b * p + m)) (small_mod (b * p + m) (p * 2) lt)

-- a power of two is not zero
pow_positive : (w : ℕ) → 0 < 2 ^ w
pow_positive zero = omega arith
pow_positive (suc w) = let h = pow_positive w in let e = pow-suc 2 w in omega arith

-- the remainder by the next power adds one bit
mod-suc_bit : (n w : ℕ) → n % 2 ^ suc w ≡ bit_at n w * 2 ^ w + n % 2 ^ w
mod-suc_bit n w =
    let positive = pow_positive w in
    rw (pow-suc 2 w) (split_again n (2 ^ w) (n / 2 ^ w) (n % 2 ^ w) (n / 2 ^ w / 2) (bit_at n w)
    (split n w) (omega arith) (omega arith) (omega arith))

-- a field spells the low bits of its number
pub number-bin : (w n : ℕ) → number (bin w n) ≡ n % 2 ^ w
unfolding bin number
number-bin zero n = omega arith
number-bin (suc w) n =
    let below : bit_at n w < 2 = omega arith in
    rw (length-bin w n, bit_worth (bit_at n w) (2 ^ w) below, number-bin w n)
    (sym (mod-suc_bit n w))

-- a number that fits its field is read again, whatever follows
pub number_at-bin : (w n : ℕ) (rest : List Bool)
    → n < 2 ^ w → number_at w (bin w n ++ rest) ≡ Some (n, rest)
unfolding number_at
number_at-bin w n rest h =
    let len = length-bin w n in
    let long : ltb (length (bin w n ++ rest)) w ≡ false =
    le-ltb _ _ (omega (arith, length-append (bin w n) rest)) in
    rw (long, take_at (bin w n) rest w len, drop_at (bin w n) rest w len, number-bin w n)
    (rw (small_mod n (2 ^ w) h) refl)

-- equally long bits that spell one number are equal
pub number_same : (bs cs : List Bool) → length bs ≡ length cs → number bs ≡ number cs → bs ≡ cs
unfolding number
number_same [] [] len e = refl
number_same [] (c ∷ cs) len e = absurd (omega arith)
number_same (b ∷ bs) [] len e = absurd (omega arith)
number_same (true ∷ bs) (true ∷ cs) len e =
    let same : length bs ≡ length cs = omega arith in
    ap (λ xs. true ∷ xs) (number_same bs cs same (omega (arith, ap (λ k. 2 ^ k) same)))
number_same (false ∷ bs) (false ∷ cs) len e =
    let same : length bs ≡ length cs = omega arith in
    ap (λ xs. false ∷ xs) (number_same bs cs same (omega arith))
number_same (true ∷ bs) (false ∷ cs) len e =
    let same : length bs ≡ length cs = omega arith in
    absurd (omega (arith, ap (λ k. 2 ^ k) same, number_below cs))
number_same (false ∷ bs) (true ∷ cs) len e =
    let same : length bs ≡ length cs = omega arith in
    absurd (omega (arith, ap (λ k. 2 ^ k) same, number_below bs))

-- bits are the field of the number that they spell
pub bin-number : (w : ℕ) (bs : List Bool) → length bs ≡ w → bin w (number bs) ≡ bs
bin-number w bs len =
    number_same (bin w (number bs)) bs (length-bin w (number bs) ∙ sym len)
    (number-bin w (number bs)
    ∙ small_mod (number bs) (2 ^ w) (subst (λ k. number bs < 2 ^ k) len (number_below bs)))

-- a number that is read fits its width, and its field begins the text
pub number_at_is : (w n : ℕ) (text rest : List Bool)
    → number_at w text ≡ Some (n, rest) → (text ≡ bin w n ++ rest) × (n < 2 ^ w)
unfolding number_at
number_at_is w n text rest e =
    elim (cases_lt (length text) w) [
      | inl lt ↦
          let short : ltb (length text) w ≡ true = lt-ltb _ _ lt in
          absurd (let none = rw short at e in cc)
      | inr le ↦
          let len : length (take w text) ≡ w = omega (arith, length-take w text) in
          let long : ltb (length text) w ≡ false = le-ltb _ _ le in
          let some = rw long at e in
          let pair : (number (take w text), drop w text) ≡ (n, rest) =
          some_is (number (take w text), drop w text) (n, rest) some in
          let below : number (take w text) < 2 ^ w =
          subst (λ k. number (take w text) < 2 ^ k) len (number_below (take w text)) in
          subst (λ (p : ℕ × List Bool). (text ≡ bin w p.0 ++ p.1) × (p.0 < 2 ^ w)) pair
          (rw (bin-number w (take w text) len) (sym (take-append-drop w text)), below)
    ]
