-- The place of a reader in bits (FM 94 BUFR: fields follow each other with no gap).
use Rattle.std.specs.Prelude.{ℕ, Bool, List, drop}
use Rattle.bufr_bits.specs.Bits.{bits}

-- what contracts see of a reader of bits: all its octets, and the number of bits before the next
-- one
pub record BitPlace : Type 0 where
  pub octets : List ℕ
  pub place : ℕ

-- the bits after the place
abbrev pub left : BitPlace → List Bool
left r = drop r.place (bits r.octets)
