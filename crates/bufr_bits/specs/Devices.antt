-- What contracts see of readers and writers of octets.
use Rattle.std.specs.Prelude.{◌≡◌, ℕ, ◌+◌, Bool, true, false, ◌||◌, nat_eq, Option, Some, List, []}
use Rattle.std.specs.Prelude.{◌++◌, length, take, drop, IfSome}

-- what contracts see of a reader: the octets left, if it knows them; whether a read failed; the
-- number of reads; whether a read met the end
pub record Reading : Type 0 where
  pub left : Option (List ℕ)
  pub failed : Bool
  pub reads : ℕ
  pub met_end : Bool

-- what contracts see of a writer: the octets taken, if it knows them, and whether it failed
pub record Writing : Type 0 where
  pub taken : Option (List ℕ)
  pub failed : Bool

-- known octets stay known and unchanged
abbrev pub Kept : Option (List ℕ) → Option (List ℕ) → Type 0
Kept old new = IfSome old (λ octets. new ≡ Some octets)

-- a read gave the first octets of those left, and none only at the end
pub record Gave (old new : Reading) (given : List ℕ) : Type 0 where
  pub first : IfSome old.left (λ all. given ≡ take (length given) all)
  pub rest : IfSome old.left (λ all. new.left ≡ Some (drop (length given) all))
  pub at_end : length given ≡ 0 → IfSome old.left (λ all. all ≡ [])
  pub works : new.failed ≡ false
  pub reads : new.reads ≡ old.reads + 1
  pub met_end : new.met_end ≡ (old.met_end || nat_eq (length given) 0)

-- a read failed and took nothing
pub record FailedRead (old new : Reading) : Type 0 where
  pub left : Kept old.left new.left
  pub failed : new.failed ≡ true
  pub reads : new.reads ≡ old.reads + 1
  pub met_end : new.met_end ≡ old.met_end

-- a writer appended these octets and no others
abbrev pub Writes : Writing → Writing → List ℕ → Type 0
Writes old new octets = IfSome old.taken (λ before. new.taken ≡ Some (before ++ octets))
