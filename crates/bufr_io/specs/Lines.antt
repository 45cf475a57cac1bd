-- Whole lines of a text, as a writer takes them.
use Rattle.std.specs.Prelude.{◌≡◌, ℕ, ◌⊎◌, List, [], ◌∷◌, ◌++◌}
use Rattle.bufr_bits.specs.Devices.{Writing}
use Rattle.bufr_io.specs.Engines.{WritesAll}

-- no octets, or octets that end with a line feed
abbrev pub AreWholeLines : List ℕ → Type 0
AreWholeLines octets = (octets ≡ []) ⊎ ((before : List ℕ) × (octets ≡ before ++ 10 ∷ []))

-- writes the first lines of a text, each of them whole, and nothing else; the writer works
pub record WritesLines (old new : Writing) (text : List ℕ) : Type 0 where
  pub front : List ℕ
  pub rest : List ℕ
  pub parted : text ≡ front ++ rest
  pub whole : AreWholeLines front
  pub written : WritesAll old new front
