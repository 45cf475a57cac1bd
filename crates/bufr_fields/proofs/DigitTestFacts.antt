-- Texts against digits, from the last one on: for `has_digits` and its parts.
use Rattle.std.proofs.Common.{◌≡◌, ℕ, zero, suc, ◌+◌, ◌-◌, ◌==◌, ◌/◌, ◌%◌, ◌^◌, ◌<◌, Bool, true}
use Rattle.std.proofs.Common.{false, List, [], ◌∷◌, ◌++◌, length, get_or, take, drop, replicate}
use Rattle.std.proofs.Common.{append-nil, take-append-drop, refl, sym, ap, ◌∙◌, arith}
use Rattle.std.proofs.Common.{length-append, inl, inr}
use Rattle.std.specs.Prelude.{decimal, ◌&&◌, ℤ, pos, negsuc}
use Rattle.std.specs.Int.RustNames.{unsigned_abs}
use lib.Signed.{lt_z}
use Rattle.bufr_fields.specs.Values.{digits_by}
use Rattle.std.specs.Str.{bytes_eq}
use Rattle.std.specs.Cmp.{both_ways}
use Rattle.std.proofs.Math.Bool.{and-false}
use Rattle.std.proofs.lemmas.Bool.{cases_lt, and_from, and_parts, ne_eqb}
use Rattle.std.proofs.lemmas.Bool.Decides.{Decides-eqb}
use Rattle.std.proofs.lemmas.Fmt.{decimal_digit, decimal_step_wide}
use Rattle.std.proofs.lemmas.List.{length-replicate, take_all}
use Rattle.std.proofs.lemmas.Slice.Eq.{bytes_eq-Decides}
use Rattle.bufr_fields.specs.Digits.{last_digits}
use Rattle.bufr_fields.specs.DigitFacts.{last_digits-push, length-last_digits, pointed_digits}
use Rattle.bufr_fields.specs.DigitFacts.{not_below}

append_parts : (a x b y : List ℕ) → length b ≡ length y → a ++ b ≡ x ++ y → (a ≡ x) × (b ≡ y)
append_parts [] [] b y len e = (refl, e)
append_parts [] (c ∷ xs) b y len e =
    let whole = ap length e in
    let sum = length-append xs y in absurd (omega (arith, len, whole, sum))
append_parts (c ∷ xs) [] b y len e =
    let whole = ap length e in
    let sum = length-append xs b in absurd (omega (arith, len, whole, sum))
append_parts (c ∷ cs) (d ∷ ds) b y len e =
    let rest = append_parts cs ds b y len (ap (λ zs. drop 1 zs) e) in
    let first : c ≡ d = ap (λ zs. get_or zs 0 0) e in
    (λ i. first i ∷ rest.0 i, rest.1)

push_same : (xs ys : List ℕ) (x y : ℕ) → xs ++ x ∷ [] ≡ ys ++ y ∷ [] → (xs ≡ ys) × (x ≡ y)
push_same xs ys x y e =
    let p = append_parts xs ys (x ∷ []) (y ∷ []) refl e in (p.0, ap (λ zs. get_or zs 0 0) p.1)

pub last_same : (all ds text front : List ℕ) (d last : ℕ) → all ≡ ds ++ d ∷ []
    → text ≡ front ++ last ∷ [] → last ≡ d → bytes_eq ds front ≡ bytes_eq all text
last_same all ds text front d last e1 e2 same =
    both_ways (bytes_eq ds front) (bytes_eq all text)
    (λ t. (bytes_eq-Decides all text).1
    (e1 ∙ (λ i. (bytes_eq-Decides ds front).0 t i ++ sym same i ∷ []) ∙ sym e2))
    (λ t. (bytes_eq-Decides ds front).1
    (push_same ds front d last (sym e1 ∙ (bytes_eq-Decides all text).0 t ∙ e2)).0)

pub last_differs : (all ds text front : List ℕ) (d last : ℕ) → all ≡ ds ++ d ∷ []
    → text ≡ front ++ last ∷ [] → (last ≡ d → ⊥) → false ≡ bytes_eq all text
last_differs all ds text front d last e1 e2 other =
    both_ways false (bytes_eq all text) (λ t. absurd cc)
    (λ t. absurd
    (other (sym (push_same ds front d last (sym e1 ∙ (bytes_eq-Decides all text).0 t ∙ e2)).1)))

-- the digits of a number without the last
pub record Digits (n : ℕ) : Type 0 where
  pub front : List ℕ
  pub ends : decimal n ≡ front ++ (48 + n % 10) ∷ []

pub decimal_ends : (n : ℕ) → n < 10 ^ 64 → Digits n
decimal_ends n small =
    elim (cases_lt n 10) [
      | inl lt ↦ let same : n % 10 ≡ n = omega arith in
          record { front = []; ends = decimal_digit n lt ∙ ap (λ k. (48 + k) ∷ []) (sym same) }
      | inr ge ↦ record { front = decimal (n / 10); ends = decimal_step_wide n ge small }
    ]

pub digit_ends : (n : ℕ) → n < 10 → decimal n ≡ [] ++ (48 + n % 10) ∷ []
digit_ends n lt =
    let same : n % 10 ≡ n = omega arith in decimal_digit n lt ∙ ap (λ k. (48 + k) ∷ []) (sym same)

pub decimal_some : (n : ℕ) (text : List ℕ) → n < 10 ^ 64 → text ≡ []
    → false ≡ bytes_eq (decimal n) text
decimal_some n text small none =
    let ends = decimal_ends n small in
    both_ways false (bytes_eq (decimal n) text) (λ t. absurd cc)
    (λ t. let len = ap length (sym ends.ends ∙ (bytes_eq-Decides (decimal n) text).0 t ∙ none) in
    let sum = length-append ends.front ((48 + n % 10) ∷ []) in absurd (omega (arith, len, sum)))

pub last_digits_end : (n : ℕ) (text front : List ℕ) (last : ℕ) → text ≡ front ++ last ∷ []
    → last_digits (length text) n ≡ last_digits (length front) (n / 10) ++ (48 + n % 10) ∷ []
last_digits_end n text front last e =
    let len = ap length e in
    let sum = length-append front (last ∷ []) in
    let one_more : length text ≡ suc (length front) = omega (arith, len, sum) in
    ap (λ m. last_digits m n) one_more ∙ last_digits-push (length front) n

pub is_nothing : (front : List ℕ) (b : Bool) → (length front == 0) ≡ b → b ≡ bytes_eq [] front
is_nothing [] b e = sym e
is_nothing (x ∷ xs) b e = sym e ∙ (grind arith)

pub split_same : (a x b y text : List ℕ) → text ≡ x ++ y → length b ≡ length y
    → (bytes_eq a x && bytes_eq b y) ≡ bytes_eq (a ++ b) text
split_same a x b y text e len =
    both_ways (bytes_eq a x && bytes_eq b y) (bytes_eq (a ++ b) text)
    (λ t. let p = and_parts (bytes_eq a x) (bytes_eq b y) t in
    (bytes_eq-Decides (a ++ b) text).1
    ((λ i. (bytes_eq-Decides a x).0 p.0 i ++ (bytes_eq-Decides b y).0 p.1 i) ∙ sym e))
    (λ t. let p = append_parts a x b y len ((bytes_eq-Decides (a ++ b) text).0 t ∙ e) in
    and_from _ _ ((bytes_eq-Decides a x).1 p.0) ((bytes_eq-Decides b y).1 p.1))

pub zero_places : (k : ℕ) → last_digits k 0 ≡ replicate k 48
zero_places zero = refl
zero_places (suc k) = rw (zero_div (10 ^ k)) (ap (λ ds. 48 ∷ ds) (zero_places k))
  where
    zero_div : (m : ℕ) → 0 / m ≡ 0
    zero_div m = grind arith

pub whole_digits : (scale : ℤ) (n : ℕ) → lt_z (pos 0) scale ≡ false → (n ≡ 0 → ⊥)
    → decimal n ++ replicate (unsigned_abs scale) 48 ≡ digits_by scale n
whole_digits (pos zero) n above some = append-nil (decimal n)
whole_digits (pos (suc s)) n above some = absurd (not_below s above)
whole_digits (negsuc s) n above some = rw (ne_eqb n 0 some) refl

-- ---- the two parts of a text

two_parts : (mid : ℕ) (text front back : List ℕ) → front ≡ take mid text → back ≡ drop mid text
    → text ≡ front ++ back
two_parts mid text front back e1 e2 = sym (take-append-drop mid text) ∙ (λ i. sym e1 i ++ sym e2 i)

-- at a scale of 0 or below: digits and zeros, part by part
whole_same : (scale : ℤ) (n places : ℕ) (text front zeros : List ℕ) → lt_z (pos 0) scale ≡ false
    → (n ≡ 0 → ⊥) → places ≡ unsigned_abs scale → text ≡ front ++ zeros → length zeros ≡ places
    → (bytes_eq (decimal n) front && bytes_eq (replicate (length zeros) 48) zeros)
    ≡ bytes_eq (digits_by scale n) text
whole_same scale n places text front zeros above some same parts len =
    split_same (decimal n) front (replicate (length zeros) 48) zeros text parts
    (length-replicate {A = ℕ} (length zeros) 48)
    ∙ ap (λ k. bytes_eq (decimal n ++ replicate k 48) text) (len ∙ same)
    ∙ ap (λ ds. bytes_eq ds text) (whole_digits scale n above some)

pub whole_true : (scale : ℤ) (n places mid : ℕ) (text front zeros : List ℕ) (r d : Bool)
    → lt_z (pos 0) scale ≡ false → (n ≡ 0 → ⊥) → places ≡ unsigned_abs scale → front ≡ take mid text
    → zeros ≡ drop mid text → length zeros ≡ places → d ≡ bytes_eq (decimal n) front → d ≡ true
    → r ≡ bytes_eq (replicate (length zeros) 48) zeros → r ≡ bytes_eq (digits_by scale n) text
whole_true scale n places mid text front zeros r d above some same e1 e2 len own holds rest =
    rest ∙ (λ i. sym (sym own ∙ holds) i && bytes_eq (replicate (length zeros) 48) zeros)
    ∙ whole_same scale n places text front zeros above some same
    (two_parts mid text front zeros e1 e2) len

pub whole_false : (scale : ℤ) (n places mid : ℕ) (text front zeros : List ℕ) (d : Bool)
    → lt_z (pos 0) scale ≡ false → (n ≡ 0 → ⊥) → places ≡ unsigned_abs scale → front ≡ take mid text
    → zeros ≡ drop mid text → length zeros ≡ places → d ≡ bytes_eq (decimal n) front → d ≡ false
    → d ≡ bytes_eq (digits_by scale n) text
whole_false scale n places mid text front zeros d above some same e1 e2 len own no_digits =
    no_digits ∙ (λ i. sym (sym own ∙ no_digits) i && bytes_eq (replicate (length zeros) 48) zeros)
    ∙ whole_same scale n places text front zeros above some same
    (two_parts mid text front zeros e1 e2) len

-- at a scale above 0: whole, point and last digits, part by part
point_same : (whole n places : ℕ) (text front rest : List ℕ) → text ≡ front ++ rest
    → length rest ≡ places + 1
    → (bytes_eq (decimal whole) front && bytes_eq (46 ∷ last_digits places n) rest)
    ≡ bytes_eq (decimal whole ++ 46 ∷ last_digits places n) text
point_same whole n places text front rest parts len =
    split_same (decimal whole) front (46 ∷ last_digits places n) rest text parts
    (let own = length-last_digits places n in omega (arith, own, len))

tail_same : (n places : ℕ) (rest : List ℕ) → length rest ≡ places + 1 → get_or rest 0 0 ≡ 46
    → bytes_eq (last_digits (length (drop 1 rest)) n) (drop 1 rest)
    ≡ bytes_eq (46 ∷ last_digits places n) rest
tail_same n places [] len dot = absurd (omega (arith, len))
tail_same n places (c ∷ tail) len dot =
    let own : length tail ≡ places = omega (arith, len) in
    (λ i. bytes_eq (last_digits (own i) n) tail)
    ∙ (λ i. sym ((Decides-eqb 46 c).1 (sym dot)) i && bytes_eq (last_digits places n) tail)

tail_differs : (n places : ℕ) (rest : List ℕ) → length rest ≡ places + 1
    → (get_or rest 0 0 ≡ 46 → ⊥) → false ≡ bytes_eq (46 ∷ last_digits places n) rest
tail_differs n places [] len dot = refl
tail_differs n places (c ∷ tail) len dot =
    λ i. sym (ne_eqb 46 c (λ e. dot (sym e))) i && bytes_eq (last_digits places n) tail

point_digits : (scale : ℤ) (n places : ℕ) → lt_z (pos 0) scale ≡ true → n < 10 ^ 64
    → places ≡ unsigned_abs scale
    → decimal (n / 10 ^ places) ++ 46 ∷ last_digits places n ≡ digits_by scale n
point_digits scale n places above small same =
    (λ i. decimal (n / 10 ^ same i) ++ 46 ∷ last_digits (same i) n)
    ∙ pointed_digits scale n above small

pub point_true : (scale : ℤ) (n whole places : ℕ) (text front rest : List ℕ) (d r : Bool)
    → lt_z (pos 0) scale ≡ true → n < 10 ^ 64 → places ≡ unsigned_abs scale
    → whole ≡ n / 10 ^ places → text ≡ front ++ rest → length rest ≡ places + 1
    → get_or rest 0 0 ≡ 46 → d ≡ bytes_eq (decimal whole) front → d ≡ true
    → r ≡ bytes_eq (last_digits (length (drop 1 rest)) n) (drop 1 rest)
    → r ≡ bytes_eq (digits_by scale n) text
point_true scale n whole places text front rest d r above small same is parts len dot own holds
    last =
    last ∙ tail_same n places rest len dot
    ∙ (λ i. sym (sym own ∙ holds) i && bytes_eq (46 ∷ last_digits places n) rest)
    ∙ point_same whole n places text front rest parts len
    ∙ (λ i. bytes_eq (decimal (is i) ++ 46 ∷ last_digits places n) text)
    ∙ ap (λ ds. bytes_eq ds text) (point_digits scale n places above small same)

pub point_false : (scale : ℤ) (n whole places : ℕ) (text front rest : List ℕ) (d : Bool)
    → lt_z (pos 0) scale ≡ true → n < 10 ^ 64 → places ≡ unsigned_abs scale
    → whole ≡ n / 10 ^ places → text ≡ front ++ rest → length rest ≡ places + 1
    → d ≡ bytes_eq (decimal whole) front → d ≡ false → d ≡ bytes_eq (digits_by scale n) text
point_false scale n whole places text front rest d above small same is parts len own differs =
    differs ∙ (λ i. sym (sym own ∙ differs) i && bytes_eq (46 ∷ last_digits places n) rest)
    ∙ point_same whole n places text front rest parts len
    ∙ (λ i. bytes_eq (decimal (is i) ++ 46 ∷ last_digits places n) text)
    ∙ ap (λ ds. bytes_eq ds text) (point_digits scale n places above small same)

pub no_point : (scale : ℤ) (n places : ℕ) (text front rest : List ℕ) (d : Bool)
    → lt_z (pos 0) scale ≡ true → n < 10 ^ 64 → places ≡ unsigned_abs scale → text ≡ front ++ rest
    → length rest ≡ places + 1 → (get_or rest 0 0 ≡ 46 → ⊥) → d ≡ false
    → d ≡ bytes_eq (digits_by scale n) text
no_point scale n places text front rest d above small same parts len dot is =
    is ∙ sym (and-false (bytes_eq (decimal (n / 10 ^ places)) front))
    ∙ (λ i. bytes_eq (decimal (n / 10 ^ places)) front && tail_differs n places rest len dot i)
    ∙ point_same (n / 10 ^ places) n places text front rest parts len
    ∙ ap (λ ds. bytes_eq ds text) (point_digits scale n places above small same)

pub rest_tail : (rest : List ℕ) → take (length rest - 1) (drop 1 rest) ≡ drop 1 rest
rest_tail [] = refl
rest_tail (x ∷ xs) = take_all (suc (length xs) - 1) xs (omega arith)
