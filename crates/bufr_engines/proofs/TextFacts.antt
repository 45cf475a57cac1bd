-- The numbers in a row and the words between them are the line of `check`: for `hold_checked`.
use Rattle.std.proofs.Common.{◌≡◌, ℕ, ◌+◌, ◌-◌, ◌≤◌, List, ◌∷◌, ◌++◌, ◌∙◌, ap, sym, arith}
use Rattle.std.proofs.Common.{append_assoc, codes, length, drop, set, length-set}
use Rattle.std.proofs.Common.{Result, Ok, Err, OnOk, take}
use Rattle.std.specs.Prelude.{if◌then◌else◌, is_ok}
use Rattle.std.proofs.lemmas.List.{drop-set, length-drop, take_all}

-- an octet put before the rest of a row
pub put_before : (row rest : List ℕ) (first x : ℕ) → 1 ≤ first → first ≤ length row
    → drop first row ≡ rest → drop (first - 1) (set row (first - 1) x) ≡ x ∷ rest
put_before row rest first x some within is =
    let next : first - 1 + 1 ≡ first = omega arith in
    drop-set row (first - 1) x (omega arith)
    ∙ ap (λ zs. x ∷ zs) (ap (λ k. drop k row) next ∙ is)

-- ` ok` put before the rest of a row
pub ok_before : (row rest : List ℕ) (first : ℕ) → 3 ≤ first → first ≤ length row
    → drop first row ≡ rest
    → drop (first - 3) (set (set (set row (first - 1) 107) (first - 2) 111) (first - 3) 32)
    ≡ 32 ∷ 111 ∷ 107 ∷ rest
ok_before row rest first some within is =
    let one = set row (first - 1) 107 in
    let two = set one (first - 2) 111 in
    let b : first - 1 - 1 ≡ first - 2 = omega arith in
    let c : first - 2 - 1 ≡ first - 3 = omega arith in
    let k = put_before row rest first 107 (omega arith) within is in
    let o : drop (first - 2) two ≡ 111 ∷ 107 ∷ rest =
    (λ i. drop (sym b i) (set one (sym b i) 111))
    ∙ put_before one (107 ∷ rest) (first - 1) 111 (omega arith)
    (omega (arith, within, length-set row (first - 1) 107)) k in
    (λ i. drop (sym c i) (set two (sym c i) 32))
    ∙ put_before two (111 ∷ 107 ∷ rest) (first - 2) 32 (omega arith)
    (omega (arith, within, length-set row (first - 1) 107, length-set one (first - 2) 111)) o

-- a row from an index to its end is added to a text, or nothing
pub row_added : {A E : Type 0} (r : Result A E) (new old row rest line : List ℕ) (first n : ℕ)
    → length row ≡ n → new ≡ (if is_ok r then old ++ take (n - first) (drop first row) else old)
    → drop first row ≡ rest → old ++ rest ≡ old ++ line → OnOk r (new ≡ old ++ line)
row_added (Ok x) new old row rest line first n long is written joined =
    is ∙ ap (λ zs. old ++ zs)
    (take_all (n - first) (drop first row) (omega (arith, long, length-drop first row)) ∙ written)
    ∙ joined
row_added (Err x) new old row rest line first n long is written joined = tt

-- the numbers and words, with a text before them
pub checked_joined : (text place long subsets slack end : List ℕ)
    → text ++ (place ++ (32 ∷ long ++ (32 ∷ 111 ∷ 107 ∷ (32 ∷ subsets ++ (32 ∷ slack ++ end)))))
    ≡ text ++ (place ++ 32 ∷ long ++ codes " ok " ++ subsets ++ 32 ∷ slack ++ end)
checked_joined text place long subsets slack end =
    let ok = codes " ok " in
    ap (λ zs. text ++ zs)
    (sym
    (append_assoc (place ++ 32 ∷ long ++ ok ++ subsets) (32 ∷ slack) end
    ∙ append_assoc (place ++ 32 ∷ long ++ ok) subsets (32 ∷ slack ++ end)
    ∙ append_assoc (place ++ 32 ∷ long) ok (subsets ++ (32 ∷ slack ++ end))
    ∙ append_assoc place (32 ∷ long) (ok ++ (subsets ++ (32 ∷ slack ++ end)))))
