-- The limits on compressed data, raw values and decimals, each a constant of the code (this
-- project's own).
use Rattle.std.specs.Prelude.{ℕ, unsigned_abs}
use Rattle.bufr_fields.specs.declared.limits.TheConstants.{MOST_VALUES, MOST_INCREMENT_BITS}
use Rattle.bufr_fields.specs.declared.limits.TheConstants.{MOST_RAW_BITS, MOST_DECIMAL_SCALE}

-- the most values of compressed data: subsets times fields
abbrev pub most_values : ℕ
most_values = MOST_VALUES

-- the most bits of an increment, or octets in a column of texts: the greatest NBINC of six bits
abbrev pub most_increment_bits : ℕ
most_increment_bits = MOST_INCREMENT_BITS

-- the most bits of a raw number
abbrev pub most_raw_bits : ℕ
most_raw_bits = MOST_RAW_BITS

-- the greatest scale of a decimal, above or below 0
abbrev pub most_decimal_scale : ℕ
most_decimal_scale = unsigned_abs MOST_DECIMAL_SCALE
