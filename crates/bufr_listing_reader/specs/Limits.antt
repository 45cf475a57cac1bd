-- Limits of numbers of one and two octets, constants of the code.
use Rattle.std.specs.Prelude.{ℕ}
use Rattle.bufr_listing_reader.specs.declared.messages.TheConstants.{ONE_OCTET, TWO_OCTETS}

-- a number of one octet is below this
abbrev pub one_octet : ℕ
one_octet = ONE_OCTET

-- a number of two octets is below this
abbrev pub two_octets : ℕ
two_octets = TWO_OCTETS
