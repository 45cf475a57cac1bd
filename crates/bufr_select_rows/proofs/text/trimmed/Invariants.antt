-- The loop of `trimmed`: what is left has the same front.
use Rattle.std.proofs.Common.{◌≡◌, length}
use Rattle.bufr_select_rows.specs.Values.{trimmed}
use Rattle.bufr_select_rows.proofs.text.trimmed.Given as goal

-- only octets of the padding were cut off
abbrev pub invariant-loop-left : goal.invariant-loop-left
invariant-loop-left l = trimmed l.left ≡ trimmed l.fn.octets

-- the octets that are left
abbrev pub decreases-loop-left : goal.decreases-loop-left
decreases-loop-left l = length l.left
