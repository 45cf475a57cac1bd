-- The value of a text's digits, one character after another: for `number_in`.
use Rattle.std.proofs.Common.{◌≡◌, ℕ, ◌+◌, ◌-◌, ◌*◌, ◌^◌, ◌<◌, ◌≤◌, true, false, List, [], ◌∷◌}
use Rattle.std.proofs.Common.{◌++◌, length, take, drop, get_or, Option, Some, None, refl, sym, ap}
use Rattle.std.proofs.Common.{◌∙◌, arith, subst, take-append-drop}
use Rattle.std.specs.Prelude.{nat_lt, if◌then◌else◌}
use Rattle.std.specs.Char.{is_ascii_digit, digit_value}
use Rattle.std.specs.Int.{IsInRange}
use Rattle.std.specs.Str.Parse.{digits_value}
use Rattle.std.proofs.lemmas.Bool.{lt-ltb}
use Rattle.std.proofs.lemmas.Bool.Decides.{nat_tests}
use Rattle.std.proofs.lemmas.Int.Digits.{digits_value_push}
use Rattle.std.proofs.lemmas.List.{append-nil, take_all, take_at, take_more}
use Rattle.std.proofs.lemmas.List.Elements.{filter-append}
use Rattle.std.proofs.lemmas.Str.{digit_value_digit}
use Rattle.std.proofs.lemmas.Str.Parse.{digits_value-take-le}
use Rattle.bufr_fields.specs.DecimalTexts.{digits_in}

-- the value of the digits in a text
abbrev pub number_of : List ℕ → ℕ
number_of text = digits_value 10 (digits_in text)

digits_more : (t : List ℕ) (k : ℕ) → k < length t
    → digits_in (take (k + 1) t) ≡ digits_in (take k t) ++ digits_in (get_or t k 0 ∷ [])
digits_more t k h =
    ap (λ xs. digits_in xs) (take_more t k 0 h)
    ∙ filter-append is_ascii_digit (take k t) (get_or t k 0 ∷ [])

digit_range : (c : ℕ) → is_ascii_digit c ≡ true → IsInRange 48 57 c
digit_range c is = grind arith

pub number_more : (t : List ℕ) (k : ℕ) → k < length t → is_ascii_digit (get_or t k 0) ≡ true
    → number_of (take (k + 1) t) ≡ number_of (take k t) * 10 + (get_or t k 0 - 48)
number_more t k h is =
    let c = get_or t k 0 in
    let own : digits_in (c ∷ []) ≡ c ∷ [] = rw is refl in
    let whole =
    ap (digits_value 10) (digits_more t k h ∙ ap (λ ds. digits_in (take k t) ++ ds) own)
    ∙ digits_value_push 10 (digits_in (take k t)) c in
    let digit = digit_value_digit c (digit_range c is) in
    let same : digit_value c ≡ c - 48 = omega (arith, digit) in
    whole ∙ ap (λ d. number_of (take k t) * 10 + d) same

pub number_same : (t : List ℕ) (k : ℕ) → k < length t → is_ascii_digit (get_or t k 0) ≡ false
    → number_of (take (k + 1) t) ≡ number_of (take k t)
number_same t k h is =
    let own : digits_in (get_or t k 0 ∷ []) ≡ [] = rw is refl in
    ap (digits_value 10) (digits_more t k h ∙ ap (λ ds. digits_in (take k t) ++ ds) own
    ∙ append-nil (digits_in (take k t)))

-- the digits at the start have no greater value, so a number too large stays so
number_front : (t : List ℕ) (k : ℕ) → number_of (take k t) ≤ number_of t
number_front t k =
    let front = digits_in (take k t) in
    let whole : digits_in t ≡ front ++ digits_in (drop k t) =
    ap (λ xs. digits_in xs) (sym (take-append-drop k t))
    ∙ filter-append is_ascii_digit (take k t) (drop k t) in
    let cut : take (length front) (digits_in t) ≡ front =
    ap (take (length front)) whole ∙ take_at front (digits_in (drop k t)) _ refl in
    subst (λ ds. digits_value 10 ds ≤ number_of t) cut
    (digits_value-take-le 10 (digits_in t) (length front) (omega arith))

abbrev pub number_if : ℕ → Option ℕ
number_if n = if nat_lt n (2 ^ 128) then Some n else None

large : (n : ℕ) → 2 ^ 128 ≤ n → number_if n ≡ None
large n h = let no : nat_lt n (2 ^ 128) ≡ false = grind (arith, nat_tests) in rw no refl

pub number_large : (t : List ℕ) (k v : ℕ) → k < length t → v ≡ number_of (take k t)
    → is_ascii_digit (get_or t k 0) ≡ true → 2 ^ 128 ≤ v * 10 + (get_or t k 0 - 48)
    → number_if (number_of t) ≡ None
number_large t k v h e is over =
    let more = number_more t k h is in
    let all = number_front t (k + 1) in
    large (number_of t) (omega (arith, more, all, e, over))

pub number_all : (t : List ℕ) (k v : ℕ) → k ≡ length t → v ≡ number_of (take k t) → v < 2 ^ 128
    → number_if (number_of t) ≡ Some v
number_all t k v all e fits =
    let whole : v ≡ number_of t =
    e ∙ ap (λ (n : ℕ). number_of (take n t)) all
    ∙ ap number_of (take_all (length t) t (omega arith)) in
    rw (sym whole, lt-ltb v (2 ^ 128) fits) refl
