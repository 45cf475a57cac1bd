-- Laws of descriptors and their six digits, for all who print or read them.
use Rattle.std.proofs.Common.{◌≡◌, ◌≢◌, ◌∙◌, ℕ, ◌<◌, ◌≤◌, ◌&&◌, ◌+◌, ◌*◌, ◌-◌, ◌/◌, Bool, true}
use Rattle.std.proofs.Common.{false, List, [], ◌∷◌, length, get_or, Some, None, refl, ap, sym}
use Rattle.std.proofs.Common.{arith, inl, inr}
use Rattle.std.proofs.lemmas.Bool.Decides.{nat_tests}
use Rattle.std.proofs.lemmas.Bool.{cases_eq, cases_Bool}
use Rattle.std.specs.Char.{is_ascii_digit}
use Rattle.std.specs.List.{list_all}
use Rattle.bufr_tables.specs.Descriptors.{of_text, in_ranges, digit_value, descriptor, six_digits}
use Rattle.bufr_tables.specs.Descriptors.{IsDescriptor, digit, f_of, x_of, y_of}

-- the range of a digit
pub digit_range : (c : ℕ) → is_ascii_digit c ≡ true → (48 ≤ c) × (c ≤ 57)
digit_range c h = (grind (arith, nat_tests), grind (arith, nat_tests))

-- if two tests pass, the first does
pub and_first : (x y : Bool) → x && y ≡ true → x ≡ true
and_first true y h = refl
and_first false y h = cc

-- if two tests pass, the second does
pub and_rest : (x y : Bool) → x && y ≡ true → y ≡ true
and_rest true y h = h
and_rest false y h = cc

-- a list of six octets by its indexes
pub six_by_place : (t : List ℕ) → length t ≡ 6
    → t ≡ get_or t 0 0 ∷ get_or t 1 0 ∷ get_or t 2 0 ∷ get_or t 3 0 ∷ get_or t 4 0 ∷ get_or t 5 0
    ∷ []
six_by_place [] h = absurd (omega arith)
six_by_place (a ∷ []) h = absurd (omega arith)
six_by_place (a ∷ b ∷ []) h = absurd (omega arith)
six_by_place (a ∷ b ∷ c ∷ []) h = absurd (omega arith)
six_by_place (a ∷ b ∷ c ∷ d ∷ []) h = absurd (omega arith)
six_by_place (a ∷ b ∷ c ∷ d ∷ e ∷ []) h = absurd (omega arith)
six_by_place (a ∷ b ∷ c ∷ d ∷ e ∷ g ∷ []) h = refl
six_by_place (a ∷ b ∷ c ∷ d ∷ e ∷ g ∷ k ∷ rest) h = absurd (omega arith)

-- a text of another length is no descriptor
pub of_text-length : (t : List ℕ) → length t ≢ 6 → of_text t ≡ None
unfolding of_text
of_text-length [] h = refl
of_text-length (a ∷ []) h = refl
of_text-length (a ∷ b ∷ []) h = refl
of_text-length (a ∷ b ∷ c ∷ []) h = refl
of_text-length (a ∷ b ∷ c ∷ d ∷ []) h = refl
of_text-length (a ∷ b ∷ c ∷ d ∷ e ∷ []) h = refl
of_text-length (a ∷ b ∷ c ∷ d ∷ e ∷ g ∷ []) h = absurd (h refl)
of_text-length (a ∷ b ∷ c ∷ d ∷ e ∷ g ∷ k ∷ rest) h = refl

-- a text with an octet other than digits is no descriptor
pub of_text-other : (t : List ℕ) → list_all is_ascii_digit t ≡ false → of_text t ≡ None
unfolding of_text
of_text-other [] h = refl
of_text-other (a ∷ []) h = refl
of_text-other (a ∷ b ∷ []) h = refl
of_text-other (a ∷ b ∷ c ∷ []) h = refl
of_text-other (a ∷ b ∷ c ∷ d ∷ []) h = refl
of_text-other (a ∷ b ∷ c ∷ d ∷ e ∷ []) h = refl
of_text-other (a ∷ b ∷ c ∷ d ∷ e ∷ g ∷ []) h = rw h
of_text-other (a ∷ b ∷ c ∷ d ∷ e ∷ g ∷ k ∷ rest) h = refl

-- six digits are the descriptor of their three numbers if these are in range
pub of_text-digits : (a b c d e g : ℕ) → list_all is_ascii_digit (a ∷ b ∷ c ∷ d ∷ e ∷ g ∷ []) ≡ true
    → of_text (a ∷ b ∷ c ∷ d ∷ e ∷ g ∷ [])
    ≡ in_ranges (digit_value a) (10 * digit_value b + digit_value c)
    (100 * digit_value d + 10 * digit_value e + digit_value g)
unfolding of_text
of_text-digits a b c d e g h = rw h

-- a Y above 255 is out of range
pub wide_y : (f x y : ℕ) → 255 < y → in_ranges f x y ≡ None
wide_y f x y h = grind (arith, nat_tests)

-- what `in_ranges` accepts
pub in_ranges-some : (f x y d : ℕ)
    → in_ranges f x y ≡ Some d → (f ≤ 3) × (x ≤ 63) × (y ≤ 255) × (d ≡ descriptor f x y)
in_ranges-some f x y d h = (
  grind (arith, nat_tests),
  grind (arith, nat_tests),
  grind (arith, nat_tests),
  grind (arith, nat_tests),
)

-- parts in their ranges make a descriptor
pub in_ranges-within : (f x y : ℕ)
    → f ≤ 3 → x ≤ 63 → y ≤ 255 → in_ranges f x y ≡ Some (descriptor f x y)
in_ranges-within f x y p q r = grind (arith, nat_tests)

-- a descriptor made of six digits prints them
six_digits-of : (a b c d e g : ℕ)
    → (48 ≤ a) × (a ≤ 57) → (48 ≤ b) × (b ≤ 57) → (48 ≤ c) × (c ≤ 57)
    → (48 ≤ d) × (d ≤ 57) → (48 ≤ e) × (e ≤ 57) → (48 ≤ g) × (g ≤ 57)
    → a - 48 ≤ 3 → 10 * (b - 48) + (c - 48) ≤ 63 → 100 * (d - 48) + 10 * (e - 48) + (g - 48) ≤ 255
    → six_digits (descriptor (a - 48) (10 * (b - 48) + (c - 48))
    (100 * (d - 48) + 10 * (e - 48) + (g - 48)))
    ≡ a ∷ b ∷ c ∷ d ∷ e ∷ g ∷ []
six_digits-of a b c d e g ra rb rc rd re rg p q r =
    let y = 100 * (d - 48) + 10 * (e - 48) + (g - 48) in
    let f = descriptor (a - 48) (10 * (b - 48) + (c - 48)) y in
    let e1 : digit (f_of f) ≡ a = omega arith in
    let e2 : digit (x_of f / 10) ≡ b = omega arith in
    let e3 : digit (x_of f) ≡ c = omega arith in
    let e4 : digit (y_of f / 100) ≡ d = omega arith in
    let e5 : digit (y_of f / 10) ≡ e = omega arith in
    let e6 : digit (y_of f) ≡ g = omega arith in
    rw (e1, e2, e3, e4, e5, e6)

-- `digit` gives digits
is_digit-digit : (n : ℕ) → is_ascii_digit (digit n) ≡ true
is_digit-digit n = grind (arith, nat_tests)

-- six tests that pass, joined
and_six : (a b c d e g : Bool)
    → a ≡ true → b ≡ true → c ≡ true → d ≡ true → e ≡ true → g ≡ true
    → a && (b && (c && (d && (e && (g && true))))) ≡ true
and_six a b c d e g p q r s t u = rw (p, q, r, s, t, u)

-- the six digits of a descriptor are read as it
pub of_text-six_digits : (d : ℕ) → IsDescriptor d → of_text (six_digits d) ≡ Some d
of_text-six_digits d h =
    let all : list_all is_ascii_digit (six_digits d) ≡ true =
    and_six _ _ _ _ _ _ (is_digit-digit (f_of d)) (is_digit-digit (x_of d / 10))
    (is_digit-digit (x_of d)) (is_digit-digit (y_of d / 100)) (is_digit-digit (y_of d / 10))
    (is_digit-digit (y_of d)) in
    let f : digit_value (digit (f_of d)) ≡ f_of d = omega arith in
    let x : 10 * digit_value (digit (x_of d / 10)) + digit_value (digit (x_of d)) ≡ x_of d =
    omega arith in
    let y : 100 * digit_value (digit (y_of d / 100)) + 10 * digit_value (digit (y_of d / 10))
    + digit_value (digit (y_of d)) ≡ y_of d = omega arith in
    let back : descriptor (f_of d) (x_of d) (y_of d) ≡ d = omega arith in
    of_text-digits _ _ _ _ _ _ all
    ∙ rw (f, x, y) (in_ranges-within (f_of d) (x_of d) (y_of d) (omega arith) (omega arith)
    (omega arith) ∙ ap Some back)

-- a descriptor has 16 bits
below_all : (d f x y : ℕ) → f ≤ 3 → x ≤ 63 → y ≤ 255 → d ≡ descriptor f x y → IsDescriptor d
below_all d f x y p q r e = omega arith

-- six digits that spell a descriptor are the ones it prints
only_digits : (a b c k e g d : ℕ) (t : List ℕ)
    → t ≡ a ∷ b ∷ c ∷ k ∷ e ∷ g ∷ []
    → list_all is_ascii_digit (a ∷ b ∷ c ∷ k ∷ e ∷ g ∷ []) ≡ true
    → of_text (a ∷ b ∷ c ∷ k ∷ e ∷ g ∷ []) ≡ Some d
    → IsDescriptor d × (t ≡ six_digits d)
only_digits a b c k e g d t shape all h =
    let r1 = and_rest _ _ all in let r2 = and_rest _ _ r1 in let r3 = and_rest _ _ r2 in let r4 =
    and_rest _ _ r3 in let r5 = and_rest _ _ r4 in
    let da = digit_range a (and_first _ _ all) in let db =
    digit_range b (and_first _ _ r1) in let dc = digit_range c (and_first _ _ r2) in
    let dk = digit_range k (and_first _ _ r3) in let de =
    digit_range e (and_first _ _ r4) in let dg = digit_range g (and_first _ _ r5) in
    let some = in_ranges-some _ _ _ d (sym (of_text-digits a b c k e g all) ∙ h) in (
      below_all d _ _ _ some.0 some.1 some.2 some.3,
      shape ∙ sym (rw some.3 (six_digits-of a b c k e g da db dc dk de dg some.0 some.1 some.2)),
    )

-- only the six digits of a descriptor are read as it
pub of_text-only : (t : List ℕ) (d : ℕ) → of_text t ≡ Some d → IsDescriptor d × (t ≡ six_digits d)
of_text-only t d h =
    elim (cases_eq (length t) 6) [
      | inr ne ↦ let none = of_text-length t ne in absurd (cc)
      | inl six ↦ elim (cases_Bool (list_all is_ascii_digit t)) [
        | inr other ↦ let none = of_text-other t other in absurd (cc)
        | inl all ↦ let shape = six_by_place t six in
            only_digits (get_or t 0 0) (get_or t 1 0) (get_or t 2 0) (get_or t 3 0) (get_or t 4 0)
            (get_or t 5 0) d t shape (rw shape at all) (rw shape at h)
      ]
    ]
