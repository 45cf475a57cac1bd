use Rattle.std.proofs.Common.{◌≡◌, drop}
use Rattle.bufr_bits.specs.Bits.{bits, numbers}
use Rattle.bufr_bits.proofs.octets.shifted.Given as goal

-- `out` has the first `i` numbers of eight bits after the shift
abbrev pub invariant-loop-i : goal.invariant-loop-i
invariant-loop-i l = l.out.items ≡ numbers l.i 8 (drop l.shift (bits l.octets))
