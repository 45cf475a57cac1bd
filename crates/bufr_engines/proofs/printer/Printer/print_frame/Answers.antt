-- The printer prints and counts the frame, and then writes the lines that it holds if they are
-- long.
use Rattle.std.proofs.Common.{◌++◌, ap, subst, sym, arith}
use Rattle.bufr_io.specs.Taking.{frame_at}
use Rattle.bufr_engines.specs.declared.printer.Printer.{Printer}
use Rattle.bufr_io.specs.Lines.{AreWholeLines}
use Rattle.bufr_engines.specs.Output.{frame_text}
use Rattle.bufr_engines.specs.StreamEngines.{PrintsFrame, WritesAllBut}
use Rattle.bufr_io.specs.PassingLaws.{passed}
use Rattle.bufr_engines.proofs.PrintingFacts.{frame_ends}
use Rattle.bufr_engines.proofs.printer.Printer.print_frame.Goals as goal

pub returns-in_err-refused-clause-prints : goal.returns-in_err-refused-clause-prints
returns-in_err-refused-clause-prints g c =
    let p = c.args.self.now in
    let short = c.print_message.ensures.short in
    passed
    (PrintsFrame p.printing p.message_reader (frame_at c.args.place c.args.octets.now) p
    c.print_message.new.self (g.W.Sink.writing c.args.writer.now)
    (g.W.Sink.writing c.print_message.new.writer))
    c.from_residual.result c.in_err-refused.field-0.0 c.from_residual.ensures.1
    (c.in_err-refused.ensures.stops, λ long. omega (arith, long, short, c.requires.short, c.requires.few))

pub write_long-requires-clause-lines : goal.write_long-requires-clause-lines
write_long-requires-clause-lines g c =
    subst (λ (q : Printer). AreWholeLines q.held.items) (sym c.count.ensures)
    c.in_ok-refused.ensures.prints.held_whole

pub returns-clause-prints : goal.returns-clause-prints
returns-clause-prints g c =
    let p = c.args.self.now in
    let q = c.print_message.new.self in
    let frame = frame_at c.args.place c.args.octets.now in
    let first = g.W.Sink.writing c.args.writer.now in
    let mid = g.W.Sink.writing c.print_message.new.writer in
    let e = c.in_ok-refused.ensures in
    let is = c.count.ensures in
    let text = subst (λ (x : Printer). WritesAllBut x.held.items
    (p.held.items ++ frame_text p.printing p.message_reader frame) p.written x.written first mid)
    (sym is) e.prints in
    let frames = ap (λ (x : Printer). x.frames) is in
    let refused = ap (λ (x : Printer). x.refused) is in
    let octets = ap (λ (x : Printer). x.octets) is in
    let written = ap (λ (x : Printer). x.written) is in
    let ends = c.write_long.ensures in
    frame_ends p.printing p.message_reader frame p _ c.write_long.new.self first mid _
    c.write_long.result ends.writes ends.keeps ends.short text
    (omega (arith, frames, e.keeps.frames))
    (omega (arith, refused, e.keeps.refused, e.told))
    (omega (arith, octets, e.keeps.octets)) (omega (arith, written, e.short))
    (omega (arith, c.requires.short, c.requires.few))
