use Rattle.std.proofs.Common.{◌≡◌, ℕ, ◌<◌, ◌≤◌, false, drop}
use Rattle.bufr_frame.specs.Starts.{agrees, bufr}
use Rattle.bufr_frame.proofs.scans.next_mark.Given as goal

-- no place before begins as the mark
abbrev pub invariant-loop-place : goal.invariant-loop-place
invariant-loop-place l = (k : ℕ) → l.from ≤ k → k < l.place → agrees (drop k l.octets) bufr ≡ false
