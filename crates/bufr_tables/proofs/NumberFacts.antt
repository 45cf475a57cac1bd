-- Digits and the numbers that fit.
use Rattle.std.proofs.Common.{◌≡◌, ◌≢◌, ◌∙◌, ℕ, ◌<◌, ◌≤◌, ◌==◌, ◌&&◌, ◌+◌, ◌-◌}
use Rattle.std.proofs.Common.{◌*◌, ◌^◌, true, false, not, List, [], ◌∷◌, length, get_or, take, drop}
use Rattle.std.proofs.Common.{fold, Some, None, ap, sym, arith, inl, inr}
use Rattle.std.proofs.Common.{take-append-drop}
use Rattle.std.specs.Prelude.{option_and_then, nat_lt}
use Rattle.std.specs.Char.{is_ascii_digit}
use Rattle.std.specs.List.{list_all}
use Rattle.std.proofs.lemmas.Bool.{cases_Bool}
use Rattle.std.proofs.lemmas.Bool.Decides.{nat_tests}
use Rattle.std.proofs.lemmas.List.{take_all}
use Rattle.std.proofs.lemmas.List.Sums.{fold_more, fold-append}
use Rattle.bufr_tables.specs.Numbers.{digits_value, natural, unsigned}
use Rattle.bufr_tables.specs.Numbers.{unsigned_fit}

grows : (n : ℕ) (t : List ℕ) → n ≤ fold (λ n c. 10 * n + (c - 48)) n t
grows n [] = omega arith
grows n (c ∷ t) = let more = grows (10 * n + (c - 48)) t in omega (arith, more)

pub digits_value-take : (t : List ℕ) (k : ℕ) → digits_value (take k t) ≤ digits_value t
digits_value-take t k =
    let whole : digits_value t
    ≡ fold (λ n c. 10 * n + (c - 48)) (digits_value (take k t)) (drop k t) =
    ap digits_value (sym (take-append-drop k t)) ∙ fold-append _ 0 (take k t) (drop k t) in
    rw whole (grows (digits_value (take k t)) (drop k t))

pub digits_value-more : (t : List ℕ) (k : ℕ) → k < length t
    → digits_value (take (k + 1) t) ≡ 10 * digits_value (take k t) + (get_or t k 0 - 48)
digits_value-more t k h = fold_more (λ n c. 10 * n + (c - 48)) 0 t k 0 h

too-large : (t : List ℕ) → 2 ^ 64 ≤ digits_value t
    → option_and_then (unsigned_fit 64) (natural t) ≡ None
too-large t h =
    let no : nat_lt (digits_value t) (2 ^ 64) ≡ false = grind (arith, nat_tests) in
    elim (cases_Bool (not (length t == 0) && list_all is_ascii_digit t))
    [ inl e ↦ rw (e, no) | inr e ↦ rw e ]

pub natural-too_large : (t : List ℕ) (k v : ℕ) → k < length t → v ≡ digits_value (take k t)
    → 2 ^ 64 ≤ 10 * v + (get_or t k 0 - 48) → option_and_then (unsigned_fit 64) (natural t) ≡ None
natural-too_large t k v lt e h =
    let more = digits_value-more t k lt in
    let all = digits_value-take t (k + 1) in
    too-large t (omega (arith, more, all))

pub natural-all : (t : List ℕ) (k v : ℕ) → (length t == 0) ≡ false
    → list_all is_ascii_digit t ≡ true → k ≡ length t → v ≡ digits_value (take k t) → v < 2 ^ 64
    → option_and_then (unsigned_fit 64) (natural t) ≡ Some v
natural-all t k v some all e is h =
    let whole : v ≡ digits_value t =
    is ∙ ap (λ (n : ℕ). digits_value (take n t)) e
    ∙ ap digits_value (take_all (length t) t (omega arith)) in
    let fits : nat_lt v (2 ^ 64) ≡ true = grind (arith, nat_tests) in
    rw (some, all, ← whole, fits)

pub unsigned-plus : (text rest : List ℕ) (c : ℕ) → text ≡ c ∷ rest → c ≡ 43
    → unsigned text ≡ natural rest
unsigned-plus text rest c e h = let k : (c == 43) ≡ true = grind (arith, nat_tests) in rw (e, k)

pub unsigned-other : (text rest : List ℕ) (c : ℕ) → text ≡ c ∷ rest → c ≢ 43
    → unsigned text ≡ natural text
unsigned-other text rest c e h = let k : (c == 43) ≡ false = grind (arith, nat_tests) in rw (e, k)
