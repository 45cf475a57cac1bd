-- A decimal's units are the only ones that its text can have: the basis of `Decimal::parse`.
use Rattle.std.proofs.Common.{◌≡◌, ℕ, zero, suc, ◌-◌, ◌^◌, ◌<◌, ◌≤◌, List, [], ◌∷◌, ◌++◌}
use Rattle.std.proofs.Common.{length, take, drop, replicate, get_or, subst, refl, sym, ap, ◌∙◌}
use Rattle.std.proofs.Common.{arith, length-append, inl, inr}
use Rattle.std.specs.Prelude.{decimal, Bool, true, false, nat_lt, Some, IfSome, if◌then◌else◌, ℤ}
use Rattle.std.specs.Prelude.{pos, negsuc, neg_ℤ, ◌==◌, filter}
use Rattle.std.specs.Char.{is_ascii_digit}
use Rattle.std.specs.Int.{IsInRange, w128}
use Rattle.std.specs.Prelude.{FitsSigned}
use Rattle.std.specs.List.{AllByRecursion}
use Rattle.std.specs.Str.Parse.{AllDigits, digits_value}
use Rattle.std.specs.Str.{bytes_eq}
use Rattle.std.proofs.lemmas.Bool.{cases_Bool, ltb-true, lt-ltb, eqb-true}
use Rattle.std.proofs.lemmas.Slice.Eq.{bytes_eq-Decides}
use Rattle.std.proofs.lemmas.Fmt.{decimal_digit, decimal_is_IsNumeral_wide}
use Rattle.std.proofs.lemmas.List.{take_at, length-replicate, take-append-drop}
use Rattle.std.proofs.lemmas.List.Elements.{filter-append}
use Rattle.std.proofs.lemmas.Str.Parse.{digit_from_value}
use Rattle.bufr_expand.specs.OperatorsInForce.{is_within}
use Rattle.bufr_fields.specs.declared.field.Decimal.{Decimal}
use Rattle.bufr_fields.specs.Values.{size_of, digits_by, text_of}
use Rattle.bufr_fields.specs.DecimalTexts.{size_in, signed_as, units_in, is_minus, units_by}
use Rattle.bufr_fields.specs.DecimalTexts.{decimal_if, decimal_by, decimal_of, IsDecimal}

-- each character is a digit
abbrev pub AreDigits : List ℕ → Type 0
AreDigits xs = AllByRecursion (λ c. is_ascii_digit c ≡ true) xs

digit_is : (c : ℕ) → IsInRange 48 57 c → is_ascii_digit c ≡ true
digit_is c h = grind arith

digit_not_minus : (c : ℕ) → is_ascii_digit c ≡ true → (c == 45) ≡ false
digit_not_minus c is = grind arith

pub all_digits : (xs : List ℕ) → AllDigits 10 xs → AreDigits xs
all_digits [] h = tt
all_digits (c ∷ cs) h = (digit_is c (digit_from_value c h.0), all_digits cs h.1)

filter_digits : (xs : List ℕ) → AreDigits xs → filter is_ascii_digit xs ≡ xs
filter_digits [] h = refl
filter_digits (c ∷ cs) h = rw h.0 (ap (λ ds. c ∷ ds) (filter_digits cs h.1))

digits_append : (xs ys : List ℕ) → AreDigits xs → AreDigits ys → AreDigits (xs ++ ys)
digits_append [] ys a b = b
digits_append (c ∷ cs) ys a b = (a.0, digits_append cs ys a.1 b)

zeros_digits : (k : ℕ) → AreDigits (replicate k 48)
zeros_digits zero = tt
zeros_digits (suc k) = (refl, zeros_digits k)

zeros_value : (k : ℕ) (ds : List ℕ) → digits_value 10 (replicate k 48 ++ ds) ≡ digits_value 10 ds
zeros_value zero ds = refl
zeros_value (suc k) ds = zeros_value k ds

pub decimal_digits : (n : ℕ) → n < 10 ^ 64 → AreDigits (decimal n)
decimal_digits n small = all_digits (decimal n) (decimal_is_IsNumeral_wide n small).0.1

-- the digits of a number have this number as their value
decimal_value : (n : ℕ) → n < 10 ^ 64 → digits_value 10 (decimal n) ≡ n
decimal_value n small = (decimal_is_IsNumeral_wide n small).1

-- ---- the sign

no_sign : (xs : List ℕ) (n : ℕ) → AreDigits xs → signed_as xs n ≡ pos n
no_sign [] n h = refl
no_sign (c ∷ cs) n h = rw (digit_not_minus c h.0) refl

no_sign_pointed : (xs ys : List ℕ) (n : ℕ) → AreDigits xs → signed_as (xs ++ 46 ∷ ys) n ≡ pos n
no_sign_pointed [] ys n h = refl
no_sign_pointed (c ∷ cs) ys n h = rw (digit_not_minus c h.0) refl

-- ---- by scale

not_zero : (n : ℕ) → (suc n == 0) ≡ false
not_zero n = grind arith

filled_digits : (k n : ℕ) → n < 10 ^ 64 → AreDigits (replicate k 48 ++ decimal n)
filled_digits k n small = digits_append (replicate k 48) (decimal n) (zeros_digits k)
    (decimal_digits n small)

parted_digits : (k : ℕ) (xs : List ℕ) → AreDigits xs → AreDigits (take k xs) × AreDigits (drop k xs)
parted_digits zero xs h = (tt, h)
parted_digits (suc k) [] h = (tt, tt)
parted_digits (suc k) (c ∷ cs) h = let p = parted_digits k cs h.1 in ((h.0, p.0), p.1)

-- a property of digits, with or without a point, holds for the digits of a number at any scale
by_scale : (P : List ℕ → Type 0) → ((xs : List ℕ) → AreDigits xs → P xs)
    → ((xs ys : List ℕ) → AreDigits xs → AreDigits ys → P (xs ++ 46 ∷ ys))
    → (scale : ℤ) (n : ℕ) → n < 10 ^ 64 → P (digits_by scale n)
by_scale P whole pointed (pos zero) n small = whole (decimal n) (decimal_digits n small)
by_scale P whole pointed (pos (suc s)) n small =
    let k = suc (suc s) - length (decimal n) in
    let ds = replicate k 48 ++ decimal n in
    let parts = parted_digits (length ds - suc s) ds (filled_digits k n small) in
    pointed (take (length ds - suc s) ds) (drop (length ds - suc s) ds) parts.0 parts.1
by_scale P whole pointed (negsuc s) zero small = whole (decimal 0) (decimal_digits 0 small)
by_scale P whole pointed (negsuc s) (suc n) small =
    rw (not_zero n) (whole (decimal (suc n) ++ replicate (suc s) 48)
    (digits_append (decimal (suc n)) (replicate (suc s) 48) (decimal_digits (suc n) small)
    (zeros_digits (suc s))))

point_out : (k : ℕ) (ds : List ℕ) → AreDigits ds
    → filter is_ascii_digit (take k ds ++ 46 ∷ drop k ds) ≡ ds
point_out k ds h =
    filter-append is_ascii_digit (take k ds) (46 ∷ drop k ds)
    ∙ sym (filter-append is_ascii_digit (take k ds) (drop k ds))
    ∙ ap (λ xs. filter is_ascii_digit xs) (take-append-drop k ds)
    ∙ filter_digits ds h

whole_digits : (front : List ℕ) (s : ℕ)
    → take (length (front ++ replicate (suc s) 48) - suc s) (front ++ replicate (suc s) 48) ≡ front
whole_digits front s =
    take_at front (replicate (suc s) 48) _
    (omega (
      arith,
      length-append front (replicate (suc s) 48),
      length-replicate {A = ℕ} (suc s) 48,
    ))

-- the digits of a number at a scale have its size as their value
value_by : (scale : ℤ) (n : ℕ) → n < 10 ^ 64 → size_in scale (digits_by scale n) ≡ n
value_by (pos zero) n small = rw (filter_digits (decimal n) (decimal_digits n small))
    (decimal_value n small)
value_by (pos (suc s)) n small =
    let ds = replicate (suc (suc s) - length (decimal n)) 48 ++ decimal n in
    ap (digits_value 10) (point_out (length ds - suc s) ds (filled_digits _ n small))
    ∙ zeros_value (suc (suc s) - length (decimal n)) (decimal n)
    ∙ decimal_value n small
value_by (negsuc s) zero small =
    let none : 1 - suc s ≡ 0 = omega arith in
    rw (decimal_digit 0 (omega arith), none) refl
value_by (negsuc s) (suc n) small =
    let digits = decimal_digits (suc n) small in
    rw (not_zero n, whole_digits (decimal (suc n)) s, filter_digits (decimal (suc n)) digits)
    (decimal_value (suc n) small)

minus_value_by : (scale : ℤ) (n : ℕ) → suc n < 10 ^ 64
    → size_in scale (45 ∷ digits_by scale (suc n)) ≡ suc n
minus_value_by (pos zero) n small = value_by (pos zero) (suc n) small
minus_value_by (pos (suc s)) n small = value_by (pos (suc s)) (suc n) small
minus_value_by (negsuc s) n small =
    let digits = decimal_digits (suc n) small in
    rw (not_zero n, whole_digits (45 ∷ decimal (suc n)) s, filter_digits (decimal (suc n)) digits)
    (decimal_value (suc n) small)

sign_by : (scale : ℤ) (n m : ℕ) → n < 10 ^ 64 → signed_as (digits_by scale n) m ≡ pos m
sign_by scale n m small =
    by_scale (λ xs. signed_as xs m ≡ pos m) (λ xs h. no_sign xs m h)
    (λ xs ys h other. no_sign_pointed xs ys m h) scale n small

-- the text of a decimal determines its units
pub units_of_text : (units scale : ℤ) → size_of units < 10 ^ 64
    → units_in scale (text_of (record { units = units; scale = scale })) ≡ units
units_of_text (pos n) scale small = sign_by scale n _ small ∙ ap pos (value_by scale n small)
units_of_text (negsuc n) scale small = ap (λ k. neg_ℤ (pos k)) (minus_value_by scale n small)

-- ---- the first character: no `m`, no second minus

no_m : (xs rest : List ℕ) → AreDigits xs → xs ≡ 109 ∷ rest → ⊥
no_m xs rest h e = let digits : AreDigits (109 ∷ rest) = subst AreDigits e h in absurd (cc digits.0)

no_m_pointed : (xs ys rest : List ℕ) → AreDigits xs → xs ++ 46 ∷ ys ≡ 109 ∷ rest → ⊥
no_m_pointed [] ys rest h e = let same : 46 ≡ 109 = ap (λ zs. get_or zs 0 0) e in
    omega (arith, same)
no_m_pointed (c ∷ cs) ys rest h e =
    let same : c ≡ 109 = ap (λ zs. get_or zs 0 0) e in
    let digit : is_ascii_digit 109 ≡ true = subst (λ x. is_ascii_digit x ≡ true) same h.0 in
    absurd (cc digit)

no_m_by : (scale : ℤ) (n : ℕ) (rest : List ℕ) → n < 10 ^ 64 → digits_by scale n ≡ 109 ∷ rest → ⊥
no_m_by scale n rest small e =
    by_scale (λ xs. xs ≡ 109 ∷ rest → ⊥) (λ xs h. no_m xs rest h)
    (λ xs ys h other. no_m_pointed xs ys rest h) scale n small e

pub no_letter : (units scale : ℤ) (rest : List ℕ) → size_of units < 10 ^ 64
    → text_of (record { units = units; scale = scale }) ≡ 109 ∷ rest → ⊥
no_letter (pos n) scale rest small e = no_m_by scale n rest small e
no_letter (negsuc n) scale rest small e = let same : 45 ≡ 109 = ap (λ zs. get_or zs 0 0) e in
    omega (arith, same)

no_minus_front : (xs : List ℕ) → AreDigits xs → is_minus xs ≡ false
no_minus_front [] h = refl
no_minus_front (c ∷ cs) h = digit_not_minus c h.0

no_minus_pointed : (xs ys : List ℕ) → AreDigits xs → is_minus (xs ++ 46 ∷ ys) ≡ false
no_minus_pointed [] ys h = refl
no_minus_pointed (c ∷ cs) ys h = digit_not_minus c h.0

no_minus_by : (scale : ℤ) (n : ℕ) → n < 10 ^ 64 → is_minus (digits_by scale n) ≡ false
no_minus_by scale n small =
    by_scale (λ xs. is_minus xs ≡ false) no_minus_front (λ xs ys h other. no_minus_pointed xs ys h)
    scale n small

-- ---- reading

minus_then : (text : List ℕ) → is_minus text ≡ true → 45 ∷ drop 1 text ≡ text
minus_then [] h = absurd cc
minus_then (c ∷ cs) h = λ i. sym (eqb-true c 45 h) i ∷ cs

-- the result is a decimal of this scale that prints this text
abbrev pub IsRead : ℤ → List ℕ → Decimal → Type 0
IsRead scale text d = (d.scale ≡ scale) × IsDecimal d × (text_of d ≡ text)

fits_pos : (n : ℕ) → n < 2 ^ 127 → FitsSigned w128 (pos n)
fits_pos n h = omega (arith, h)

fits_negsuc : (n : ℕ) → n < 2 ^ 127 → FitsSigned w128 (negsuc n)
fits_negsuc n h = omega (arith, h)

found_by : (scale : ℤ) (text : List ℕ) (minus : Bool) (n : ℕ) → is_within 600 scale ≡ true
    → is_minus text ≡ minus
    → IfSome (decimal_if (bytes_eq (digits_by scale n) (if minus then drop 1 text else text)) scale
    (units_by minus n)) (λ d. IsRead scale text d)
found_by scale text false n within is =
    elim (cases_Bool (nat_lt n (2 ^ 127))) [
      | inl fits ↦
          elim (cases_Bool (bytes_eq (digits_by scale n) text)) [
            | inl same ↦ rw (fits, same) (
              refl,
              record { units = fits_pos n (ltb-true n (2 ^ 127) fits); scale = within },
              (bytes_eq-Decides (digits_by scale n) text).0 same,
            )
            | inr other ↦ rw (fits, other) tt
          ]
      | inr large ↦ rw large tt
    ]
found_by scale text true zero within is = tt
found_by scale text true (suc n) within is =
    elim (cases_Bool (nat_lt n (2 ^ 127))) [
      | inl fits ↦
          elim (cases_Bool (bytes_eq (digits_by scale (suc n)) (drop 1 text))) [
            | inl same ↦
                rw (fits, same) (
                  refl,
                  record { units = fits_negsuc n (ltb-true n (2 ^ 127) fits); scale = within },
                  ap (λ ds. 45 ∷ ds) ((bytes_eq-Decides (digits_by scale (suc n)) (drop 1 text)).0
                      same) ∙ minus_then text is,
                )
            | inr other ↦ rw (fits, other) tt
          ]
      | inr large ↦ rw large tt
    ]

pub decimal_found : (scale : ℤ) (text : List ℕ)
    → IfSome (decimal_of scale text) (λ d. IsRead scale text d)
decimal_found scale text =
    elim (cases_Bool (is_within 600 scale)) [
      | inl within ↦ rw within (found_by scale text (is_minus text) (size_in scale text) within
          refl)
      | inr out ↦ rw out tt
    ]

back_pos : (n : ℕ) (scale : ℤ) → n < 2 ^ 127
    → decimal_by scale (digits_by scale n) (size_in scale (digits_by scale n))
    ≡ Some (record { units = pos n; scale = scale })
back_pos n scale few =
    let small : n < 10 ^ 64 = omega (arith, few) in
    rw (
      value_by scale n small,
      no_minus_by scale n small,
      lt-ltb n (2 ^ 127) few,
      (bytes_eq-Decides (digits_by scale n) (digits_by scale n)).1 refl,
    ) refl

back_neg : (n : ℕ) (scale : ℤ) → n < 2 ^ 127
    → decimal_by scale (45 ∷ digits_by scale (suc n)) (size_in scale (45 ∷ digits_by scale (suc n)))
    ≡ Some (record { units = negsuc n; scale = scale })
back_neg n scale few =
    let small : suc n < 10 ^ 64 = omega (arith, few) in
    rw (
      minus_value_by scale n small,
      lt-ltb n (2 ^ 127) few,
      (bytes_eq-Decides (digits_by scale (suc n)) (digits_by scale (suc n))).1 refl,
    ) refl

back_of : (units scale : ℤ) → FitsSigned w128 units → is_within 600 scale ≡ true
    → decimal_of scale (text_of (record { units = units; scale = scale }))
    ≡ Some (record { units = units; scale = scale })
back_of (pos n) scale fits within = rw within (back_pos n scale (omega (arith, fits)))
back_of (negsuc n) scale fits within = rw within (back_neg n scale (omega (arith, fits)))

-- no other decimal prints the text
pub decimal_only : (scale : ℤ) (text : List ℕ) (d : Decimal) → IsDecimal d → d.scale ≡ scale
    → text_of d ≡ text → decimal_of scale text ≡ Some d
decimal_only scale text d is own e =
    ap (λ s. decimal_of s text) (sym own) ∙ ap (decimal_of d.scale) (sym e)
    ∙ back_of d.units d.scale is.units is.scale

-- ---- printable characters

-- each character is a space or above
abbrev pub ArePlain : List ℕ → Type 0
ArePlain xs = AllByRecursion (λ c. 32 ≤ c) xs

digit_plain : (c : ℕ) → is_ascii_digit c ≡ true → 32 ≤ c
digit_plain c is = grind arith

pub digits_plain : (xs : List ℕ) → AreDigits xs → ArePlain xs
digits_plain [] h = tt
digits_plain (c ∷ cs) h = (digit_plain c h.0, digits_plain cs h.1)

plain_pointed : (xs ys : List ℕ) → AreDigits xs → AreDigits ys → ArePlain (xs ++ 46 ∷ ys)
plain_pointed [] ys a b = (omega arith, digits_plain ys b)
plain_pointed (c ∷ cs) ys a b = (digit_plain c a.0, plain_pointed cs ys a.1 b)

plain_by : (scale : ℤ) (n : ℕ) → n < 10 ^ 64 → ArePlain (digits_by scale n)
plain_by scale n small = by_scale ArePlain digits_plain plain_pointed scale n small

pub text_plain : (units scale : ℤ) → size_of units < 10 ^ 64
    → ArePlain (text_of (record { units = units; scale = scale }))
text_plain (pos n) scale small = plain_by scale n small
text_plain (negsuc n) scale small = (omega arith, plain_by scale (suc n) small)

size_fits : (z : ℤ) → FitsSigned w128 z → size_of z < 10 ^ 64
size_fits (pos n) fits = omega (arith, fits)
size_fits (negsuc n) fits = omega (arith, fits)

pub units_of_decimal : (d : Decimal) → IsDecimal d → units_in d.scale (text_of d) ≡ d.units
units_of_decimal d is = units_of_text d.units d.scale (size_fits d.units is.units)
