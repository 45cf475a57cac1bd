use Rattle.std.proofs.Common.{◌≡◌, ◌-◌}
use Rattle.bufr_fields.specs.Increments.{fewest_bits}
use Rattle.bufr_fields.proofs.increment.fewest_bits.Given as goal

-- the search from 1 finds what the search from this width finds
abbrev pub invariant-loop-k : goal.invariant-loop-k
invariant-loop-k l = fewest_bits 63 1 l.difference ≡ fewest_bits (64 - l.k) l.k l.difference
