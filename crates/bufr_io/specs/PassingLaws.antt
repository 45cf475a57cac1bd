-- A fault that `?` passes up, for the proofs of callers.
use Rattle.std.proofs.Common.{◌≡◌, Result, Ok, Err, IsErrAnd, sym, subst}

-- `?` passes up an error as it is
pub passed : {A F : Type 0} (P : Result A F → Type 0) (r : Result A F) (e : F)
    → IsErrAnd r (λ y. y ≡ e) → P (Err e) → P r
passed P (Ok x) e is p = absurd is
passed P (Err y) e is p = subst (λ z. P (Err z)) (sym is) p
