use Rattle.std.proofs.Common.{◌+◌, ◌*◌, ◌^◌, ◌≤◌, ◌++◌, length}
use Rattle.bufr_engines.specs.StreamEngines.{Keeps, WritesAllBut}
use Rattle.bufr_engines.proofs.ListingFacts.{listed}
use Rattle.bufr_engines.proofs.printer.Printer.print_listing.Given as goal

-- the heading and the lines of the subsets so far are written or held, after those held before; few
-- octets for each subset
abbrev pub invariant-loop-index : goal.invariant-loop-index
invariant-loop-index g l = record {
  done : WritesAllBut l.self.held.items
      (l.fn.self.held.items ++ listed l.found.message l.index) l.fn.self.written
      l.self.written (g.W.Sink.writing l.fn.writer) (g.W.Sink.writing l.writer);
  keeps : Keeps l.fn.self l.self;
  short : l.self.written + length l.self.held.items
      ≤ l.fn.self.written + 2 ^ 64 + 2 ^ 40 * l.index;
}
