-- Four octets by their places, for `is_end`.
use Rattle.std.proofs.Common.{◌≡◌, ℕ, List, [], ◌∷◌, length, get_or, refl, arith}
use Rattle.std.specs.Str.{bytes_eq}

-- four octets, compared with a text
pub four_octets : (xs ys : List ℕ) → length xs ≡ 4
    → bytes_eq (get_or xs 0 0 ∷ get_or xs 1 0 ∷ get_or xs 2 0 ∷ get_or xs 3 0 ∷ []) ys
    ≡ bytes_eq xs ys
four_octets (a ∷ b ∷ c ∷ d ∷ []) ys four = refl
four_octets _ ys four = absurd (omega arith)
