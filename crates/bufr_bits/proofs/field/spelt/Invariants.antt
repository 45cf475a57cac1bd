use Rattle.std.proofs.Common.{◌≡◌, take}
use Rattle.bufr_bits.specs.Bits.{bits, number}
use Rattle.bufr_bits.proofs.field.spelt.Given as goal

-- the total is the number that the octets read spell
abbrev pub invariant-loop-octet : goal.invariant-loop-octet
invariant-loop-octet l = l.total ≡ number (bits (take l.octet-index l.octets))
