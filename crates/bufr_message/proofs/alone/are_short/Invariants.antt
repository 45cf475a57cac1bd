use Rattle.std.proofs.Common.{◌≡◌, true, take}
use Rattle.bufr_message.specs.Messages.{can_be_alone}
use Rattle.bufr_message.proofs.alone.are_short.Given as goal

-- each subset before fits a message of its own
abbrev pub invariant-loop-subset : goal.invariant-loop-subset
invariant-loop-subset l = can_be_alone l.descriptors (take l.subset-index l.subsets) ≡ true
