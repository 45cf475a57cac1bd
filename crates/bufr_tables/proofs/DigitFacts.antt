-- The table of three digits has the digits of each number below 256: for `Fxy::digits`.
use Rattle.std.proofs.Common.{◌≡◌, ℕ, zero, suc, ◌+◌, ◌-◌, ◌*◌, ◌/◌, ◌<◌, Bool, true, ◌&&◌, T, eqb}
use Rattle.std.proofs.Common.{get_or, eqb→eq, eq-zero-or-pos, inl, inr, arith}
use lib.Ieee.Fits.{and_l, and_r}
use Rattle.bufr_tables.specs.Descriptors.{digit}
use Rattle.bufr_tables.specs.declared.three_digits.TheConstants.{THREE_DIGITS}

abbrev pub HasDigits : ℕ → Type 0
HasDigits n = (get_or THREE_DIGITS (3 * n) 0 ≡ digit (n / 100))
    × (get_or THREE_DIGITS (3 * n + 1) 0 ≡ digit (n / 10))
    × (get_or THREE_DIGITS (3 * n + 2) 0 ≡ digit n)

abbrev has_digits : ℕ → Bool
has_digits n = eqb (get_or THREE_DIGITS (3 * n) 0) (digit (n / 100))
    && eqb (get_or THREE_DIGITS (3 * n + 1) 0) (digit (n / 10))
    && eqb (get_or THREE_DIGITS (3 * n + 2) 0) (digit n)

abbrev all_have_digits : ℕ → Bool
all_have_digits zero = true
all_have_digits (suc n) = has_digits n && all_have_digits n

digits_of : (n : ℕ) → T (has_digits n) → HasDigits n
digits_of n t =
    let a = and_l _ _ t in
    (eqb→eq _ _ (and_l _ _ a), eqb→eq _ _ (and_r _ _ a), eqb→eq _ _ (and_r _ _ t))

below : (count n : ℕ) → T (all_have_digits count) → n < count → HasDigits n
below zero n t h = absurd (omega arith)
below (suc count) n t h =
    elim (eq-zero-or-pos (count - n)) [
      | inl z ↦
          let e : n ≡ count = omega arith in
          rw e (digits_of count (and_l _ (all_have_digits count) t))
      | inr g ↦ below count n (and_r _ (all_have_digits count) t) (omega arith)
    ]

pub digits_at : (n : ℕ) → n < 256 → HasDigits n
digits_at n h = below 256 n tt h
