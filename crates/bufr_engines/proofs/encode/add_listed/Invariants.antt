use Rattle.std.proofs.Common.{◌≡◌, length}
use Rattle.bufr_engines.proofs.EncodingFacts.{EncodedSoFar}
use Rattle.bufr_engines.proofs.encode.add_listed.Given as goal

-- the octets and the count are of the messages read; the cached templates are of these tables
abbrev pub invariant-loop-messages : goal.invariant-loop-messages
invariant-loop-messages l = record {
  so_far : EncodedSoFar l.tables l.compressed l.text l.messages l.octets.items l.count;
  kept : l.templates ≡ l.tables;
}

abbrev pub decreases-loop-messages : goal.decreases-loop-messages
decreases-loop-messages l = length l.messages.messages
