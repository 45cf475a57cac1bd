-- Octets of an entry, appended to others.
use Rattle.std.specs.Prelude.{◌≡◌, ◌++◌, ℕ, Bool, true, false, Option, Some, None, List}

-- b is true exactly if there are octets, and `new` is `old` with them appended
abbrev pub PutsBehind : Option (List ℕ) → Bool → List ℕ → List ℕ → Type 0
PutsBehind None b old new = (b ≡ false) × (new ≡ old)
PutsBehind (Some octets) b old new = (b ≡ true) × (new ≡ old ++ octets)
