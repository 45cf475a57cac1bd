-- The printer holds the line of `check`, or stays as it was if memory runs out.
use Rattle.std.proofs.Common.{◌++◌, ap, sym, subst, ◌∙◌, Err, IfErr}
use Rattle.bufr_io.specs.declared.fault.ToolFault.TheVariants as faults
use Rattle.bufr_io.specs.Taking.{frame_at}
use Rattle.bufr_engines.specs.Output.{frame_text}
use Rattle.bufr_engines.specs.StreamEngines.{Adds, WritesAllBut}
use Rattle.bufr_engines.proofs.LineFacts.{frame_whole}
use Rattle.bufr_engines.proofs.PartFacts.{adds_held, adds_none}
use Rattle.bufr_io.specs.PassingLaws.{passed}
use Rattle.bufr_engines.proofs.printer.Printer.print_message.Goals as goal

pub returns-in_err-check_frame-in-Checked-clause-stops :
    goal.returns-in_err-check_frame-in-Checked-clause-stops
returns-in_err-check_frame-in-Checked-clause-stops g c =
    let p = c.args.self.now in
    let text = frame_text p.printing p.message_reader (frame_at c.args.place c.args.octets.now) in
    let writer = g.W.Sink.writing c.args.writer.now in
    passed (λ r. IfErr r (λ fault. Adds text p c.check_frame.new.self writer writer (Err fault)))
    c.from_residual.result faults.OutOfMemory c.from_residual.ensures.1
    (adds_none text p c.check_frame.new.self writer c.requires.lines c.requires.works
    c.in_err-check_frame-in-Checked.ensures.err c.check_frame.ensures.written)

pub returns-in_ok-check_frame-in-Checked-clause-prints :
    goal.returns-in_ok-check_frame-in-Checked-clause-prints
returns-in_ok-check_frame-in-Checked-clause-prints g c =
    let p = c.args.self.now in
    let q = c.check_frame.new.self in
    let frame = frame_at c.args.place c.args.octets.now in
    let text = frame_text p.printing p.message_reader frame in
    let writer = g.W.Sink.writing c.args.writer.now in
    subst (λ n. WritesAllBut q.held.items (p.held.items ++ text) p.written n writer writer)
    (sym c.check_frame.ensures.written)
    (adds_held text q.held.items p writer
    (c.in_ok-check_frame-in-Checked.ensures.ok
    ∙ ap (λ r. p.held.items ++ frame_text r p.message_reader frame) (sym c.in-Checked.is))
    c.requires.lines (frame_whole p.printing p.message_reader frame) c.requires.works)
