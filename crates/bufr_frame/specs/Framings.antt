-- A framer as contracts see it.
use Rattle.std.specs.Prelude.{ℕ, ◌≤◌, List, length, drop}
use Rattle.bufr_frame.specs.declared.places.TheConstants.{LONGEST}

-- a framer: the number of octets taken in, and the octets held
pub record Framing : Type 0 where
  pub fed : ℕ
  pub held : List ℕ

-- The octets that a framer keeps; it holds those from `from` on: at most 16,777,215, all taken in,
-- and at least as many as it keeps before them.
pub record AreKept (octets : List ℕ) (from fed : ℕ) : Type 0 where
  pub within : from ≤ length octets
  pub half : from ≤ length (drop from octets)
  pub taken : length (drop from octets) ≤ fed
  pub short : length (drop from octets) ≤ LONGEST
