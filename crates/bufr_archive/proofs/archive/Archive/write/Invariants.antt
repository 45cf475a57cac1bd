use Rattle.std.proofs.Common.{◌≡◌, ◌≤◌, ◌++◌, false, List, length, ◌*◌, ◌^◌}
use Rattle.std.specs.Option.{option_map}
use Rattle.bufr_bits.specs.Devices.{Writes}
use Rattle.bufr_entries.specs.Keeping.{first_of}
use Rattle.bufr_shelves.specs.Shelves.{lent}
use Rattle.bufr_gather.specs.Texts.{text}
use Rattle.bufr_entries.specs.declared.entry.Entry.{Entry}
use Rattle.bufr_archive.proofs.archive.Archive.write.Given as goal

-- the text of the entries before is written and counted, and `next` is the first of the others
abbrev pub invariant-loop : goal.invariant-loop
invariant-loop g l =
    record {
      done : List Entry;
      todo : List Entry;
      all : l.self.entries ≡ done ++ todo;
      at : l.counter ≡ length done;
      next : option_map lent l.next ≡ first_of todo;
      wrote : Writes (g.W.Sink.writing l.initial.sink) (g.W.Sink.writing l.sink) (text done);
      works : (g.W.Sink.writing l.sink).failed ≡ false;
      counted : l.written ≡ length (text done);
      bound : l.written ≤ l.counter * 2 ^ 64;
    }
