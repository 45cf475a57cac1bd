use Rattle.std.proofs.Common.{length}
use Rattle.bufr_engines.specs.StreamEngines.{Keeps}
use Rattle.bufr_engines.proofs.ListingFacts.{AmidFields}
use Rattle.bufr_engines.proofs.printer.Printer.print_fields.Given as goal

-- the lines of the fields handed out are written or held
abbrev pub invariant-fields : goal.invariant-fields
invariant-fields g l = record {
  amid : AmidFields l.fn.fields l.fields l.fn.self l.self (g.W.Sink.writing l.fn.writer)
      (g.W.Sink.writing l.writer);
  keeps : Keeps l.fn.self l.self;
}

abbrev pub decreases-fields : goal.decreases-fields
decreases-fields g l = length l.fields
