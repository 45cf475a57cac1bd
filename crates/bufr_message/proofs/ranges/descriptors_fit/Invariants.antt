use Rattle.std.proofs.Common.{ℕ, ◌<◌, ◌^◌, get_or}
use Rattle.bufr_message.proofs.ranges.descriptors_fit.Given as goal

abbrev pub invariant-loop-descriptor : goal.invariant-loop-descriptor
invariant-loop-descriptor l = (i : ℕ) → i < l.descriptor-index → get_or l.descriptors i 0 < 2 ^ 16
