-- The octets of a slice are below 256.
use Rattle.std.proofs.Common.{◌≡◌, ℕ, suc, Bool, true, false, List, [], ◌∷◌, get_or, Fits, w8, refl}
use Rattle.std.proofs.Common.{arith}
use Rattle.std.specs.Prelude.{◌&&◌, nat_lt}
use Rattle.std.specs.List.{list_all}
use Rattle.std.proofs.lemmas.Bool.{lt-ltb}

pub octets_below : (xs : List ℕ) → ((i : ℕ) → Fits w8 (get_or xs i 0))
    → list_all (λ x. nat_lt x 256) xs ≡ true
octets_below [] each = refl
octets_below (x ∷ xs) each =
    let first : Fits w8 x = each 0 in
    rw (lt-ltb x 256 (omega arith), octets_below xs (λ i. each (suc i))) refl

pub and_true : (a b : Bool) → b ≡ true → a ≡ (a && b)
and_true true true e = refl
and_true false b e = refl
and_true true false e = absurd cc
