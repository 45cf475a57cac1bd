use Rattle.std.proofs.Common.{◌≡◌, true, take}
use Rattle.bufr_message.specs.Messages.{can_be_alone}
use Rattle.bufr_message.proofs.alone.can_be_alone.Given as goal

-- each subset before fits a message of its own
abbrev pub invariant-loop-index : goal.invariant-loop-index
invariant-loop-index l = can_be_alone l.descriptors (take l.index l.subsets) ≡ true
