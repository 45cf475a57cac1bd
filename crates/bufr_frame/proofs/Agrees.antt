-- Lists agree if they are equal as far as the shorter goes: for `agrees`.
use Rattle.std.proofs.Common.{◌≡◌, ℕ, zero, suc, true, false, cond, eqb, nat_eq, ◌&&◌, List, []}
use Rattle.std.proofs.Common.{◌∷◌, length, take, get_or, refl, arith, min, ◌≤◌}
use Rattle.std.specs.Cmp.Lexicographic.{pointwise}
use Rattle.bufr_frame.specs.Starts.{agrees}

pub agrees_by : (xs ys : List ℕ) (n : ℕ) → n ≡ min (length xs) (length ys)
    → pointwise nat_eq (take n xs) (take n ys) ≡ agrees xs ys
agrees_by [] ys zero e = refl
agrees_by [] ys (suc n) e = absurd (omega arith)
agrees_by (x ∷ xs) [] zero e = refl
agrees_by (x ∷ xs) [] (suc n) e = absurd (omega arith)
agrees_by (x ∷ xs) (y ∷ ys) zero e = absurd (omega arith)
agrees_by (x ∷ xs) (y ∷ ys) (suc n) e =
    let same : n ≡ min (length xs) (length ys) = omega arith in
    elim (eqb x y) as
    (λ b. (b && pointwise nat_eq (take n xs) (take n ys)) ≡ cond b (agrees xs ys) false)
    [ true ↦ agrees_by xs ys n same | false ↦ refl ]

-- four octets and a mark of four
pub agrees_by_four : (xs ys : List ℕ) → 4 ≤ length xs → length ys ≡ 4
    → pointwise nat_eq (get_or xs 0 0 ∷ get_or xs 1 0 ∷ get_or xs 2 0 ∷ get_or xs 3 0 ∷ [])
    (get_or ys 0 0 ∷ get_or ys 1 0 ∷ get_or ys 2 0 ∷ get_or ys 3 0 ∷ []) ≡ agrees xs ys
agrees_by_four (a ∷ b ∷ c ∷ d ∷ xs) (k ∷ l ∷ m ∷ n ∷ []) long four =
    agrees_by (a ∷ b ∷ c ∷ d ∷ xs) (k ∷ l ∷ m ∷ n ∷ []) 4 (omega arith)
agrees_by_four _ _ long four = absurd (omega arith)
