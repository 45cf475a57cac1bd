-- The least and the greatest of numbers, one by one.
use Rattle.std.proofs.Common.{◌≡◌, ℕ, List, [], ◌∷◌, ◌++◌, arith}
use Rattle.std.specs.Prelude.{min, max}
use Rattle.bufr_data.specs.Compressed.Best.{least_with, greatest}

pub least_push : (n : ℕ) (ms : List ℕ) (x : ℕ)
    → least_with n (ms ++ x ∷ []) ≡ min (least_with n ms) x
least_push n [] x = omega arith
least_push n (m ∷ ms) x = let before = least_push n ms x in omega (arith, before)

pub greatest_push : (ms : List ℕ) (x : ℕ) → greatest (ms ++ x ∷ []) ≡ max (greatest ms) x
greatest_push [] x = omega arith
greatest_push (m ∷ ms) x = let before = greatest_push ms x in omega (arith, before)
