use Rattle.std.proofs.Common.{◌≡◌, length}
use Rattle.std.specs.Option.{option_map}
use Rattle.bufr_gather.specs.Reading.{read}
use Rattle.bufr_gather.proofs.HeldFacts.{MarkedSoFar}
use Rattle.bufr_gather.proofs.archive_text.push_marks.Given as goal

-- all entries before but the last have their marks, and the rest follows; the tables stay
abbrev pub invariant-loop-rest : goal.invariant-loop-rest
invariant-loop-rest l = record {
  so_far : MarkedSoFar l.fn.message_reader l.fn.octets (option_map read l.before) l.place l.rest
      l.marks.items;
  tables : l.message_reader ≡ l.fn.message_reader;
}

-- each turn reads some octets
abbrev pub decreases-loop-rest : goal.decreases-loop-rest
decreases-loop-rest l = length l.rest
