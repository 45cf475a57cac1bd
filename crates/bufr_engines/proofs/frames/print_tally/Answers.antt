-- The counts are of the whole stream, and the last text comes after its frames.
use Rattle.std.proofs.Common.{◌≡◌, arith, ◌∙◌, ap, refl, sym}
use Rattle.bufr_frame.specs.Streams.{cut}
use Rattle.bufr_engines.specs.declared.printer.Printer.{Printer}
use Rattle.bufr_engines.specs.Output.{frames_text, skipped_by}
use Rattle.bufr_engines.specs.StreamEngines.{PrintsEnd}
use Rattle.bufr_frame.specs.FrameBounds.{cut_few, cut_short}
use Rattle.bufr_io.specs.PassingLaws.{passed}
use Rattle.bufr_engines.proofs.PartFacts.{counted_all}
use Rattle.bufr_engines.proofs.StreamFacts.{end_tally, end_done, end_fails, end_halted, end_stopped}
use Rattle.bufr_engines.proofs.frames.print_tally.Goals as goal
use Rattle.bufr_engines.proofs.frames.print_tally.Goals.{in-Shown, in-Checked}

pub overflow_sub-skipped : goal.overflow_sub-skipped
overflow_sub-skipped g c =
    let s = c.requires.ended in
    let a = s.4.long in
    let b = s.4.printed.octets_are in
    let e = cut_short s.3 in
    omega arith

pub stop-requires : goal.stop-requires
stop-requires g c =
    let s = c.requires.ended in
    let p = c.args.printer.now in
    let now : Printer = record p { held = c.hold_tally.new.text } in
    record {
      stopped = (
        s.2,
        frames_text s.0 s.1 (cut s.3),
        end_halted s.0 s.1 s.2 _ p now c.args.fed s.3 s.4 c.requires.long c.in_default.ensures.err
            refl,
      );
    }

pub returns-in_default : goal.returns-in_default
returns-in_default g c printing tables first stream h =
    let p = c.args.printer.now in
    let now : Printer = record p { held = c.hold_tally.new.text } in
    end_stopped printing tables first _ stream _
    (c.stop.ensures first (frames_text printing tables (cut stream))
    (end_halted printing tables first _ p now c.args.fed stream h c.requires.long
    c.in_default.ensures.err refl))

pub write_out-requires-clause-fits : goal.write_out-requires-clause-fits
write_out-requires-clause-fits g c =
    let s = c.requires.ended in
    let few = cut_few s.3 in
    let a = s.4.long in
    let d = counted_all _ _ _ _ _ _ s.4.printed.text in
    let b = s.4.printed.short in
    let e = c.requires.long in
    omega arith

pub returns-in_err-write_out : goal.returns-in_err-write_out
returns-in_err-write_out g c printing tables first stream h =
    let p = c.args.printer.now in
    let counted : c.match-printer.skipped ≡ skipped_by p.printing c.args.fed p.octets =
    elim c.match-printer.branch [
      | in-Shown w ↦
          w.skipped-is ∙ ap (λ q. skipped_by q c.args.fed p.octets) (sym w.in-Shown.is)
      | in-Checked w ↦
          w.skipped-is ∙ ap (λ q. skipped_by q c.args.fed p.octets) (sym w.in-Checked.is)
    ] in
    let tally = end_tally printing tables first _ p c.args.fed c.match-printer.skipped stream h
    counted in
    passed (PrintsEnd printing tables stream first (g.W.Sink.writing c.write_out.new.writer))
    c.from_residual.result c.in_err-write_out.field-0.0
    c.from_residual.ensures.1
    (end_fails printing tables first _ _ c.args.printer.now c.args.fed stream c.deref.result.now _ _
    h tally (c.deref.ensures.value ∙ c.in-Ok.ensures.ok) c.in_err-write_out.ensures)

pub returns : goal.returns
returns g c printing tables first stream h =
    let p = c.args.printer.now in
    let counted : c.match-printer.skipped ≡ skipped_by p.printing c.args.fed p.octets =
    elim c.match-printer.branch [
      | in-Shown w ↦
          w.skipped-is ∙ ap (λ q. skipped_by q c.args.fed p.octets) (sym w.in-Shown.is)
      | in-Checked w ↦
          w.skipped-is ∙ ap (λ q. skipped_by q c.args.fed p.octets) (sym w.in-Checked.is)
    ] in
    let tally = end_tally printing tables first _ p c.args.fed c.match-printer.skipped stream h
    counted in
    end_done printing tables first _ _ c.args.printer.now c.args.fed stream c.deref.result.now _ h
    tally (c.deref.ensures.value ∙ c.in-Ok.ensures.ok) c.in_ok-write_out.ensures
