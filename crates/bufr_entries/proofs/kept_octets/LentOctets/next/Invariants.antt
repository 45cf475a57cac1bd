use Rattle.std.proofs.Common.{◌≡◌, ◌≤◌, ◌++◌, length, map, reverse}
use Rattle.bufr_entries.specs.Pages.{flat, paged, octets_of}
use Rattle.bufr_entries.specs.declared.entry.Entry.{Entry}
use Rattle.bufr_entries.proofs.kept_octets.LentOctets.next.Given as goal

-- the octets left are constant, and a page has those of its entries
abbrev pub invariant-loop-entry : goal.invariant-loop-entry
invariant-loop-entry l = record {
  same : map (λ (e : Entry). e.bytes) (paged (reverse l.self-inside.entries.now)
      l.self-inside.octets.now ++ flat l.self-inside.pages.now) ≡ l.fn.self;
  fits : octets_of (reverse l.self-inside.entries.now) ≤ length l.self-inside.octets.now;
}

-- the pages left
abbrev pub decreases-loop-entry : goal.decreases-loop-entry
decreases-loop-entry l = length l.self-inside.pages.now
