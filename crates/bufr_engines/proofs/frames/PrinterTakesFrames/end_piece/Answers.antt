-- At the end of a piece the printer writes what it holds, or the writer fails.
use Rattle.bufr_engines.proofs.PrintingFacts.{printed_fits}
use Rattle.bufr_engines.proofs.StreamFacts.{held_taken, held_left, held_stopped}
use Rattle.bufr_engines.proofs.frames.PrinterTakesFrames.end_piece.Goals as goal

pub write_held-requires-clause-works : goal.write_held-requires-clause-works
write_held-requires-clause-works g c = c.requires.3.printed.text.written.works

pub write_held-requires-clause-fits : goal.write_held-requires-clause-fits
write_held-requires-clause-fits g c =
    let s = c.requires in printed_fits _ _ _ _ _ s.2 s.3.printed s.4.count

pub returns-clause-taken : goal.returns-clause-taken
returns-clause-taken g c =
    held_taken g.W.Sink.writing c.args.self.now c.write_held.new.self
    (g.W.Sink.writing c.args.out.now) (g.W.Sink.writing c.write_held.new.writer)
    c.write_held.result c.write_held.ensures.writes
    c.write_held.ensures.keeps

pub returns-clause-none : goal.returns-clause-none
returns-clause-none g c =
    held_left c.args.self.now c.write_held.new.self
    (g.W.Sink.writing c.args.out.now) (g.W.Sink.writing c.write_held.new.writer)
    c.write_held.result c.write_held.ensures.writes

pub returns-clause-stopped : goal.returns-clause-stopped
returns-clause-stopped g c =
    held_stopped g.W.Sink.writing c.args.self.now c.write_held.new.self
    (g.W.Sink.writing c.args.out.now) (g.W.Sink.writing c.write_held.new.writer)
    c.write_held.result c.write_held.ensures.writes
