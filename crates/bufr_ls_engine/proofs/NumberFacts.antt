-- Decimals by their digits, with an octet after them: the contracts of `push_count`, `push_short` and
-- `push_eight`.
use Rattle.std.proofs.Common.{◌≡◌, ◌∙◌, ℕ, ◌+◌, ◌/◌, ◌%◌, ◌≤◌, ◌<◌, ◌^◌, List, [], ◌∷◌, ◌++◌}
use Rattle.std.proofs.Common.{sym, ap, arith, append_assoc}
use Rattle.std.specs.Prelude.{decimal}
use Rattle.std.proofs.lemmas.Fmt.{decimal_digit, decimal_step}

pub one_digit : (n end : ℕ) → n < 10 → decimal n ++ end ∷ [] ≡ (48 + n % 10) ∷ end ∷ []
one_digit n end small =
    let same : n ≡ n % 10 = omega arith in
    ap (λ (t : List ℕ). t ++ end ∷ []) (decimal_digit n small)
    ∙ ap (λ d. (48 + d) ∷ end ∷ []) same

-- the last digit of a number, after those of a tenth
last_digit : (n tenth : ℕ) (xs : List ℕ) → 10 ≤ n → n < 2 ^ 64 → tenth ≡ n / 10
    → decimal n ++ xs ≡ decimal tenth ++ (48 + n % 10) ∷ xs
last_digit n tenth xs ten fits is =
    ap (λ (t : List ℕ). t ++ xs) (decimal_step n ten fits)
    ∙ append_assoc (decimal (n / 10)) ((48 + n % 10) ∷ []) xs
    ∙ ap (λ k. decimal k ++ (48 + n % 10) ∷ xs) (sym is)

-- a number of one digit
pub first_digit : (n : ℕ) (xs : List ℕ) → n < 10 → decimal n ++ xs ≡ (48 + n) ∷ xs
first_digit n xs small = ap (λ (t : List ℕ). t ++ xs) (decimal_digit n small)

pub two_digits : (n end : ℕ) → 10 ≤ n → n < 100
    → decimal n ++ end ∷ [] ≡ (48 + n / 10) ∷ (48 + n % 10) ∷ end ∷ []
two_digits n end ten small =
    last_digit n (n / 10) (end ∷ []) ten (omega arith) (omega arith)
    ∙ first_digit (n / 10) ((48 + n % 10) ∷ end ∷ []) (omega arith)

pub last_two : (n end : ℕ) → 10 ≤ n → n < 100
    → decimal n ++ end ∷ [] ≡ (48 + n / 10 % 10) ∷ (48 + n % 10) ∷ end ∷ []
last_two n end ten small =
    let same : n / 10 ≡ n / 10 % 10 = omega arith in
    two_digits n end ten small ∙ ap (λ d. (48 + d) ∷ (48 + n % 10) ∷ end ∷ []) same

pub three_digits : (n end : ℕ) → 100 ≤ n → n < 1000
    → decimal n ++ end ∷ []
    ≡ (48 + n / 100 % 10) ∷ (48 + n / 10 % 10) ∷ (48 + n % 10) ∷ end ∷ []
three_digits n end hundred small =
    let same : n / 100 ≡ n / 100 % 10 = omega arith in
    last_digit n (n / 10) (end ∷ []) (omega arith) (omega arith) (omega arith)
    ∙ last_digit (n / 10) (n / 100) ((48 + n % 10) ∷ end ∷ []) (omega arith) (omega arith) (omega arith)
    ∙ first_digit (n / 100) ((48 + n / 10 % 10) ∷ (48 + n % 10) ∷ end ∷ []) (omega arith)
    ∙ ap (λ d. (48 + d) ∷ (48 + n / 10 % 10) ∷ (48 + n % 10) ∷ end ∷ []) same

-- the last three digits, after those of a thousandth
last_three : (n : ℕ) (xs : List ℕ) → 1000 ≤ n → n < 2 ^ 64
    → decimal n ++ xs
    ≡ decimal (n / 1000) ++ (48 + n / 100 % 10) ∷ (48 + n / 10 % 10) ∷ (48 + n % 10) ∷ xs
last_three n xs thousand fits =
    last_digit n (n / 10) xs (omega arith) fits (omega arith)
    ∙ last_digit (n / 10) (n / 100) ((48 + n % 10) ∷ xs) (omega arith) (omega arith) (omega arith)
    ∙ last_digit (n / 100) (n / 1000) ((48 + n / 10 % 10) ∷ (48 + n % 10) ∷ xs) (omega arith)
    (omega arith) (omega arith)

pub four_digits : (n end : ℕ) → 1000 ≤ n → n < 10000
    → decimal n ++ end ∷ []
    ≡ (48 + n / 1000) ∷ (48 + n / 100 % 10) ∷ (48 + n / 10 % 10) ∷ (48 + n % 10) ∷ end ∷ []
four_digits n end thousand small =
    last_three n (end ∷ []) thousand (omega arith)
    ∙ first_digit (n / 1000) ((48 + n / 100 % 10) ∷ (48 + n / 10 % 10) ∷ (48 + n % 10) ∷ end ∷ [])
    (omega arith)

-- a text that grew by octets, which are a number and the octet after it
pub written : (old text number octets : List ℕ) (end : ℕ) → text ≡ old ++ octets
    → number ++ end ∷ [] ≡ octets → text ≡ old ++ number ++ end ∷ []
written old text number octets end is same =
    is ∙ ap (λ (t : List ℕ). old ++ t) (sym same) ∙ sym (append_assoc old number (end ∷ []))

-- the last four digits of a number, after those of a ten thousandth
last_four : (n low end : ℕ) → 10000 ≤ n → n < 100000000 → low ≡ n % 10000
    → decimal n ++ end ∷ []
    ≡ decimal (n / 10000)
    ++ (48 + low / 1000) ∷ (48 + low / 100 % 10) ∷ (48 + low / 10 % 10) ∷ (48 + low % 10) ∷ end ∷ []
last_four n low end long small is =
    let thousands : low / 1000 ≡ n / 1000 % 10 = omega arith in
    let hundreds : low / 100 % 10 ≡ n / 100 % 10 = omega arith in
    let tens : low / 10 % 10 ≡ n / 10 % 10 = omega arith in
    let ones : low % 10 ≡ n % 10 = omega arith in
    rw (thousands, hundreds, tens, ones)
    (last_three n (end ∷ []) (omega arith) (omega arith)
    ∙ last_digit (n / 1000) (n / 10000)
    ((48 + n / 100 % 10) ∷ (48 + n / 10 % 10) ∷ (48 + n % 10) ∷ end ∷ []) (omega arith) (omega arith)
    (omega arith))

-- a text that grew by all digits but the last three, and then by these and an octet
pub eight_digits : (old mid text : List ℕ) (n low end : ℕ) → 10000 ≤ n → n < 100000000
    → low ≡ n % 10000 → mid ≡ old ++ decimal (n / 10000) ++ (48 + low / 1000) ∷ []
    → text ≡ mid ++ (48 + low / 100 % 10) ∷ (48 + low / 10 % 10) ∷ (48 + low % 10) ∷ end ∷ []
    → text ≡ old ++ decimal n ++ end ∷ []
eight_digits old mid text n low end long small is first then =
    let last = (48 + low / 100 % 10) ∷ (48 + low / 10 % 10) ∷ (48 + low % 10) ∷ end ∷ [] in
    let four = (48 + low / 1000) ∷ last in
    let grew : text ≡ old ++ decimal (n / 10000) ++ four =
    then ∙ ap (λ (t : List ℕ). t ++ last) first
    ∙ append_assoc (old ++ decimal (n / 10000)) ((48 + low / 1000) ∷ []) last in
    written old text (decimal n) (decimal (n / 10000) ++ four) end
    (grew ∙ append_assoc old (decimal (n / 10000)) four) (last_four n low end long small is)
