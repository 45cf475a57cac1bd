-- The printer prints one frame more, or stops at it.
use Rattle.std.proofs.Common.{◌++◌, ◌∷◌, [], length, arith, length-append}
use Rattle.std.proofs.lemmas.List.Sums.{sum_by_push}
use Rattle.bufr_frame.specs.declared.frames.Found.{Found}
use Rattle.bufr_io.specs.Taking.{frame_at}
use Rattle.bufr_engines.specs.Output.{frames_text}
use Rattle.bufr_engines.proofs.PrintingFacts.{refused_at_most, printed_short, stopped}
use Rattle.bufr_engines.proofs.StreamFacts.{since_more}
use Rattle.bufr_engines.proofs.frames.PrinterTakesFrames.take_frame.Goals as goal

pub print_frame-requires-clause-works : goal.print_frame-requires-clause-works
print_frame-requires-clause-works g c = c.requires.3.printed.text.written.works

pub print_frame-requires-clause-lines : goal.print_frame-requires-clause-lines
print_frame-requires-clause-lines g c = c.requires.3.printed.text.held_whole

pub print_frame-requires-clause-few : goal.print_frame-requires-clause-few
print_frame-requires-clause-few g c =
    let s = c.requires in
    let frame = frame_at c.args.place c.args.octets.now in
    omega (arith, s.3.printed.frames_are, s.4.count, length-append s.2 (frame ∷ []))

pub print_frame-requires-clause-refused : goal.print_frame-requires-clause-refused
print_frame-requires-clause-refused g c = refused_at_most _ _ _ _ _ _ c.requires.3.printed

pub print_frame-requires-clause-octets : goal.print_frame-requires-clause-octets
print_frame-requires-clause-octets g c =
    let s = c.requires in
    let frame = frame_at c.args.place c.args.octets.now in
    omega (
      arith,
      s.3.printed.octets_are,
      s.4.octets,
      sum_by_push (λ (f : Found). length f.bytes) s.2 frame,
    )

pub print_frame-requires-clause-short : goal.print_frame-requires-clause-short
print_frame-requires-clause-short g c = printed_short _ _ _ _ _ _ c.requires.3.printed

pub returns-in-Ok-clause-taken : goal.returns-in-Ok-clause-taken
returns-in-Ok-clause-taken g c first begin frames h =
    since_more first (g.W.Sink.writing begin) _ (g.W.Sink.writing c.print_frame.new.writer)
    c.args.self.now c.print_frame.new.self frames (frame_at c.args.place c.args.octets.now) _ h
    c.in-Ok.ensures.prints c.in-Ok.ensures.printing c.in-Ok.ensures.tables

pub stop-requires : goal.stop-requires
stop-requires g c =
    let s = c.requires in
    let frame = frame_at c.args.place c.args.octets.now in
    record {
      stopped = (
        g.W.Sink.writing s.1,
        frames_text s.0.printing s.0.message_reader (s.2 ++ frame ∷ []),
        stopped s.0.printing s.0.message_reader (g.W.Sink.writing s.1)
            (g.W.Sink.writing c.args.out.now) (g.W.Sink.writing c.print_frame.new.writer)
            c.args.self.now c.print_frame.new.self s.2 frame _ s.3.printed
            c.in-Err.ensures.prints,
      );
    }

pub returns-in-Err-clause-stopped : goal.returns-in-Err-clause-stopped
returns-in-Err-clause-stopped g c first begin frames h =
    let frame = frame_at c.args.place c.args.octets.now in
    c.stop.ensures (g.W.Sink.writing begin)
    (frames_text first.printing first.message_reader (frames ++ frame ∷ []))
    (stopped first.printing first.message_reader (g.W.Sink.writing begin)
    (g.W.Sink.writing c.args.out.now) (g.W.Sink.writing c.print_frame.new.writer) c.args.self.now
    c.print_frame.new.self frames frame _ h.printed c.in-Err.ensures.prints)
