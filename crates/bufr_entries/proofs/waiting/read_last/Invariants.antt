use Rattle.std.proofs.Common.{◌≡◌, ◌≤◌, length, take}
use Rattle.bufr_entries.specs.Pages.{octets_waiting}
use Rattle.bufr_entries.proofs.waiting.read_last.Given as goal

-- the first entry to read is one of the entries, or none
abbrev pub invariant-loop-first : goal.invariant-loop-first
invariant-loop-first l = l.first ≤ length l.entries

-- the entries before it
abbrev pub decreases-loop-first : goal.decreases-loop-first
decreases-loop-first l = l.first

-- `ahead` has the octets of the entries before this one
abbrev pub invariant-loop-entry : goal.invariant-loop-entry
invariant-loop-entry l =
    l.ahead.items ≡ octets_waiting l.octets (take l.entry-index l.last)
