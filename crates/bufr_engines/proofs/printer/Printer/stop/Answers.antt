-- The printer writes what it holds, or the writer fails.
use Rattle.std.proofs.Common.{subst, sym}
use Rattle.bufr_engines.specs.StreamEngines.{Stops, StopsWithin}
use Rattle.bufr_engines.proofs.PartFacts.{stops_then, stops_written}
use Rattle.bufr_engines.proofs.printer.Printer.stop.Goals as goal

pub returns-in-Ok : goal.returns-in-Ok
returns-in-Ok g c first text h =
    let fault = c.in-OutOfMemory.is in
    subst (Stops text first (g.W.Sink.writing c.write_held.new.writer)) (sym fault)
    (stops_written text first _ _ c.args.self.now
    (subst (StopsWithin text first c.args.self.now (g.W.Sink.writing c.args.writer.now)) fault h)
    c.in-Ok.ensures.writes.0)

pub returns-in-Err : goal.returns-in-Err
returns-in-Err g c first text h =
    let fault = c.in-OutOfMemory.is in
    stops_then text first _ _ c.args.self.now _
    (subst (StopsWithin text first c.args.self.now (g.W.Sink.writing c.args.writer.now)) fault h)
    c.in-Err.ensures.writes
