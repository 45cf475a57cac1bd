use Rattle.std.proofs.Common.{◌≡◌, ◌-◌}
use Rattle.bufr_listing_reader.specs.RawWords.{octets_before}
use Rattle.bufr_listing_reader.proofs.WordFacts.{behind}
use Rattle.bufr_listing_reader.proofs.raw_values.octets_before.Given as goal

-- the octets read, and those of the rest, are the text's
abbrev pub invariant-loop-i : goal.invariant-loop-i
invariant-loop-i l =
    octets_before l.count l.text ≡ behind l.octets.items (octets_before (l.count - l._i) l.rest)
