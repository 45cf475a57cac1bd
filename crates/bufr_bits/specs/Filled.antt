-- Bits in whole octets (FM 94 BUFR, general regulations 94.1: sections are whole octets, filled
-- with bits set to zero).
use Rattle.std.specs.Prelude.{◌≡◌, ℕ, ◌<◌, ◌≤◌, ◌+◌, ◌-◌, ◌*◌, Bool, false, List, ◌++◌, length}
use Rattle.std.specs.Prelude.{take, drop, replicate}
use Rattle.bufr_bits.specs.Bits.{bits}

-- `len` bits fill the octets, but for fewer than eight zero bits at the end
abbrev pub IsFilled : ℕ → List ℕ → Type 0
IsFilled len octets =
    (len ≤ 8 * length octets) × (8 * length octets < len + 8)
    × (drop len (bits octets) ≡ replicate (8 * length octets - len) false)

-- the bits of octets, without the last `few` of the first `n` octets, and `few` zero bits at the
-- end
abbrev pub moved_up : ℕ → ℕ → List ℕ → List Bool
moved_up n few octets =
    take (8 * n - few) (bits octets) ++ bits (drop n octets) ++ replicate few false
