-- If memory runs out the printer writes what it holds, or the writer fails.
use Rattle.std.proofs.Common.{refl, arith}
use Rattle.bufr_engines.specs.Output.{frames_text}
use Rattle.bufr_engines.proofs.PrintingFacts.{halted}
use Rattle.bufr_engines.proofs.frames.PrinterTakesFrames.halt.Goals as goal

pub stop-requires : goal.stop-requires
stop-requires g c =
    let s = c.requires in
    record {
      stopped = (
        g.W.Sink.writing s.1,
        frames_text s.0.printing s.0.message_reader s.2,
        halted _ _ _ _ c.args.self.now c.args.self.now s.2 s.3.printed s.4.count refl refl,
      );
    }

pub returns : goal.returns
returns g c first begin frames h =
    let s = c.requires in
    c.stop.ensures (g.W.Sink.writing begin) (frames_text first.printing first.message_reader frames)
    (halted _ _ _ _ c.args.self.now c.args.self.now frames h.printed
    (omega (arith, h.printed.frames_are, s.3.printed.frames_are, s.4.count)) refl refl)
