use Rattle.std.proofs.Common.{◌≡◌, length}
use Rattle.bufr_engines.proofs.encode.pass_all.Given as goal

-- the fault after the messages left stays
abbrev pub invariant-loop-messages : goal.invariant-loop-messages
invariant-loop-messages l = l.messages.fault ≡ l.fn.messages.fault

abbrev pub decreases-loop-messages : goal.decreases-loop-messages
decreases-loop-messages l = length l.messages.messages
