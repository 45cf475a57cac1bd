-- Files that nobody has read, one after another: the contract of `all_tables`.
use Rattle.std.proofs.Common.{◌≡◌, ℕ, zero, suc, ◌+◌, ◌<◌, List, [], ◌∷◌, length, map}
use Rattle.std.proofs.Common.{get_or, drop, subst, arith}
use Rattle.std.proofs.Math.ListN.{set}
use Rattle.bufr_bits.specs.Devices.{Reading}
use Rattle.bufr_io.specs.Engines.{IsFresh}
use Rattle.bufr_io.specs.Readers.{AreFresh}

-- the next file is fresh
pub fresh_at : {A : Type 0} (reading : A → Reading) (xs : List A) (i : ℕ) (d : A) → i < length xs
    → AreFresh (drop i (map reading xs)) → IsFresh (reading (get_or xs i d))
fresh_at reading [] i d inside all = absurd (omega arith)
fresh_at reading (x ∷ xs) zero d inside all = all.0
fresh_at reading (x ∷ xs) (suc i) d inside all = fresh_at reading xs i d (omega arith) all

-- so are those after it, whatever becomes of it
behind : {A : Type 0} (reading : A → Reading) (xs : List A) (i : ℕ) (x : A)
    → AreFresh (drop i (map reading xs)) → AreFresh (drop (suc i) (map reading (set xs i x)))
behind reading [] i x all = tt
behind reading (y ∷ xs) zero x all = all.1
behind reading (y ∷ xs) (suc i) x all = behind reading xs i x all

pub fresh_behind : {A : Type 0} (reading : A → Reading) (xs : List A) (i : ℕ) (x : A)
    → AreFresh (drop i (map reading xs)) → AreFresh (drop (i + 1) (map reading (set xs i x)))
fresh_behind reading xs i x all =
    let at : suc i ≡ i + 1 = omega arith in
    subst (λ n. AreFresh (drop n (map reading (set xs i x)))) at (behind reading xs i x all)
