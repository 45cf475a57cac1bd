-- Increments of compressed data (FM 94 BUFR, regulation 94.6.3): the number of one, and the fewest
-- bits of all.
use Rattle.std.specs.Prelude.{ℕ, zero, suc, ◌+◌, ◌-◌, ◌^◌, ◌==◌, Option, Some, None, nat_lt, nat_le}
use Rattle.std.specs.Prelude.{if◌then◌else◌}
use Rattle.bufr_fields.specs.declared.field.Raw.{Raw}
use Rattle.bufr_fields.specs.declared.field.Raw.TheVariants.{Number}

-- the number of an increment of k bits in a field of `width` bits, if the sum fits
abbrev pub raised : ℕ → ℕ → ℕ → ℕ → Option Raw
raised width minimum k increment =
    if increment + 1 == 2 ^ k then Some (Number (2 ^ width - 1))
    else if nat_lt (minimum + increment) (2 ^ width) then Some (Number (minimum + increment))
    else None

-- the fewest bits, from k on, in which a difference is below all ones, within the given number of
-- tries
unfoldable pub fewest_bits : ℕ → ℕ → ℕ → ℕ
fewest_bits zero k difference = k
fewest_bits (suc more) k difference = if nat_le (difference + 2) (2 ^ k) then k
    else fewest_bits more (k + 1) difference
