-- The digits of a number are its front and its last ones: for all who print or read decimals.
use Rattle.std.proofs.Common.{◌≡◌, ℕ, zero, suc, ◌+◌, ◌-◌, ◌/◌, ◌%◌, ◌^◌, ◌<◌, List, [], ◌∷◌, ◌++◌}
use Rattle.std.proofs.Common.{length, replicate, refl, sym, ap, ◌∙◌, arith, append_assoc}
use Rattle.std.proofs.Common.{append-nil, length-append, inl, inr, add-one}
use Rattle.std.specs.Prelude.{decimal, true, false, ℤ, pos, negsuc}
use Rattle.std.specs.Int.RustNames.{unsigned_abs}
use lib.Signed.{lt_z}
use Rattle.std.proofs.Math.Nat.{pow-suc, div-div-eq-div-mul}
use Rattle.std.proofs.lemmas.Bool.{cases_lt}
use Rattle.std.proofs.lemmas.Int.{ints}
use Rattle.std.proofs.lemmas.List.{replicate-append-replicate, take_at, drop_at}
use Rattle.std.proofs.lemmas.Fmt.{decimal_digit, decimal_step_wide}
use Rattle.bufr_fields.specs.Digits.{last_digits}
use Rattle.bufr_fields.specs.Values.{pointed, sign_of, size_of, digits_by, text_of}

div-pow_suc : (n s : ℕ) → n / 10 ^ suc s ≡ n / 10 / 10 ^ s
div-pow_suc n s =
    ap (λ k. n / k) (let e = pow-suc 10 s in omega (arith, e))
    ∙ sym (div-div-eq-div-mul n 10 (10 ^ s))

-- the last digits of a number are those of its tenth and one more
pub last_digits-push : (s n : ℕ)
    → last_digits (suc s) n ≡ last_digits s (n / 10) ++ (48 + n % 10) ∷ []
last_digits-push zero n = ap (λ k. (48 + k % 10) ∷ []) (omega arith)
last_digits-push (suc s) n = rw (div-pow_suc n s, last_digits-push s n) refl

pub length-last_digits : (s n : ℕ) → length (last_digits s n) ≡ s
length-last_digits zero n = refl
length-last_digits (suc s) n = ap suc (length-last_digits s n)

-- digits with zeros before them, at least s + 1
abbrev filled : ℕ → ℕ → List ℕ
filled s n = replicate (suc s - length (decimal n)) 48 ++ decimal n

some_digits : (n : ℕ) → n < 10 ^ 64 → 0 < length (decimal n)
some_digits n small =
    elim (cases_lt n 10) [
      | inl lt ↦ rw (decimal_digit n lt) (omega arith)
      | inr ge ↦
          rw (decimal_step_wide n ge small)
          (omega (arith, length-append (decimal (n / 10)) ((48 + n % 10) ∷ [])))
    ]

filled-push : (s n : ℕ) → n < 10 ^ 64 → filled (suc s) n ≡ filled s (n / 10) ++ (48 + n % 10) ∷ []
filled-push s n small =
    elim (cases_lt n 10) [
      | inl lt ↦
          let none : n / 10 ≡ 0 = omega arith in
          let same : n % 10 ≡ n = omega arith in
          let more : suc (suc s) - 1 ≡ suc s = omega arith in
          let less : suc s - 1 ≡ s = omega arith in
          rw (none, same, decimal_digit n lt, decimal_digit 0 (omega arith), more, less)
          (ap (λ xs. xs ++ (48 + n) ∷ []) (sym (replicate-append-replicate s 1 48
          ∙ ap (λ k. replicate k 48) (add-one s))))
      | inr ge ↦
          let step = decimal_step_wide n ge small in
          let len : length (decimal n) ≡ length (decimal (n / 10)) + 1 =
          omega
          (arith, ap length step, length-append (decimal (n / 10)) ((48 + n % 10) ∷ [])) in
          let room : suc (suc s) - length (decimal n) ≡ suc s - length (decimal (n / 10)) =
          omega arith in
          ap (λ k. replicate k 48 ++ decimal n) room
          ∙ ap (λ ds. replicate (suc s - length (decimal (n / 10))) 48 ++ ds) step
          ∙ sym (append_assoc (replicate (suc s - length (decimal (n / 10))) 48) (decimal (n / 10))
          ((48 + n % 10) ∷ []))
    ]

-- filled digits are those of the front, and then the last ones
pub filled_is : (s n : ℕ) → n < 10 ^ 64 → filled s n ≡ decimal (n / 10 ^ s) ++ last_digits s n
filled_is zero n small =
    let some = some_digits n small in
    let no_zero : 1 - length (decimal n) ≡ 0 = omega arith in
    let whole : n / 1 ≡ n = omega arith in
    rw (no_zero, whole, append-nil (decimal n)) refl
filled_is (suc s) n small =
    filled-push s n small
    ∙ ap (λ ds. ds ++ (48 + n % 10) ∷ []) (filled_is s (n / 10) (omega arith))
    ∙ append_assoc (decimal (n / 10 / 10 ^ s)) (last_digits s (n / 10)) ((48 + n % 10) ∷ [])
    ∙ (λ i. decimal (sym (div-pow_suc n s) i) ++ sym (last_digits-push s n) i)

-- the point comes between the front and the last digits
pub pointed_is : (s n : ℕ) → n < 10 ^ 64
    → pointed (suc s) (filled (suc s) n) ≡ decimal (n / 10 ^ suc s) ++ 46 ∷ last_digits (suc s) n
pointed_is s n small =
    let front = decimal (n / 10 ^ suc s) in
    let back = last_digits (suc s) n in
    let len : length (front ++ back) - suc s ≡ length front =
    omega (arith, length-append front back, length-last_digits (suc s) n) in
    rw (
      filled_is (suc s) n small,
      len,
      take_at front back (length front) refl,
      drop_at front back (length front) refl,
    ) refl

-- ---- the text of a value, by its sign, its number and its places

size_is : (z : ℤ) → size_of z ≡ unsigned_abs z
size_is (pos n) = refl
size_is (negsuc n) = refl

pub pointed_digits : (scale : ℤ) (number : ℕ) → lt_z (pos 0) scale ≡ true → number < 10 ^ 64
    → decimal (number / 10 ^ unsigned_abs scale) ++ 46 ∷ last_digits (unsigned_abs scale) number
    ≡ digits_by scale number
pointed_digits (pos zero) number above small = absurd cc
pointed_digits (pos (suc s)) number above small = sym (pointed_is s number small)
pointed_digits (negsuc s) number above small = absurd cc

pub not_below : (s : ℕ) → lt_z (pos 0) (pos (suc s)) ≡ false → ⊥
not_below s above = grind (arith, ints)

-- the text of a decimal appended to a text
pub text_behind : (text mid new sign digits : List ℕ) (units scale : ℤ) (number : ℕ)
    → mid ≡ text ++ sign → sign ≡ sign_of units → number ≡ unsigned_abs units
    → digits ≡ digits_by scale number → new ≡ mid ++ digits
    → new ≡ text ++ text_of (record { units = units; scale = scale })
text_behind text mid new sign digits units scale number e1 e2 e3 e4 e5 =
    let size : number ≡ size_of units = e3 ∙ sym (size_is units) in
    e5
    ∙ (λ i. e1 i ++ e4 i)
    ∙ append_assoc text sign (digits_by scale number)
    ∙ (λ i. text ++ (e2 i ++ digits_by scale (size i)))
