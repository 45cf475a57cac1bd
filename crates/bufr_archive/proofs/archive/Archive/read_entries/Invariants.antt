use Rattle.std.proofs.Common.{◌≡◌, length}
use Rattle.std.specs.Option.{option_map}
use Rattle.bufr_gather.specs.Reading.{read}
use Rattle.bufr_gather.specs.ReportEntries.{IsReportEntry}
use Rattle.bufr_gather.specs.ReadFacts.{ReadSoFar}
use Rattle.bufr_archive.proofs.archive.Archive.read_entries.Given as goal

-- the octets are the text of the entries on the shelf and then the rest; the tables stay
abbrev pub invariant-loop-rest : goal.invariant-loop-rest
invariant-loop-rest g l = record {
  so_far : ReadSoFar (IsReportEntry l.fn.tables) l.fn.octets (g.S.Shelf.entries l.shelf)
      (option_map read l.before) l.place l.rest;
  tables : l.message_reader ≡ l.fn.tables;
}

-- each turn reads some octets
abbrev pub decreases-loop-rest : goal.decreases-loop-rest
decreases-loop-rest g l = length l.rest
