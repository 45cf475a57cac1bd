-- The printer takes in a stream, frame by frame and piece by piece, to its end: for `take_frame`,
-- `end_piece`, `halt` and `print_tally`.
use Rattle.std.proofs.Common.{◌≡◌, ℕ, ◌+◌, ◌^◌, ◌<◌, false, List, [], ◌∷◌, ◌++◌, length}
use Rattle.std.proofs.Common.{Result, Ok, Err, OnOk, sym, ap, append_assoc}
use Rattle.std.proofs.Common.{◌∙◌, subst, refl, arith, length-append}
use Rattle.std.specs.Prelude.{IfErr}
use Rattle.std.proofs.lemmas.List.{append-nil}
use Rattle.bufr_bits.specs.Devices.{Writing}
use Rattle.bufr_tables.specs.Entries.{Entries}
use Rattle.bufr_frame.specs.declared.frames.Found.{Found}
use Rattle.bufr_frame.specs.Streams.{cut}
use Rattle.bufr_engines.specs.declared.printer.Printer.{Printer}
use Rattle.bufr_io.specs.declared.fault.ToolFault.{ToolFault}
use Rattle.bufr_io.specs.declared.fault.ToolFault.TheVariants as faults
use Rattle.bufr_engines.specs.declared.frame_lines.OutputForm.{OutputForm}
use Rattle.bufr_io.specs.declared.fault.Tally.{Tally}
use Rattle.bufr_io.specs.Engines.{WritesAll, WritesAfter, FailsAfter}
use Rattle.bufr_engines.specs.Output.{octets_of, frames_text, stream_text, last_text, tally_of}
use Rattle.bufr_engines.specs.Output.{skipped_by}
use Rattle.bufr_engines.specs.StreamEngines.{HasEnded, HasPrintedSince, Keeps}
use Rattle.bufr_engines.specs.StreamEngines.{PrintsEnd, PrintsFrame, Stops, StopsWithin, WritesHeld}
use Rattle.bufr_frame.specs.FrameBounds.{cut_few}
use Rattle.bufr_io.specs.WritingLaws.{writes_more, fails_more, fails_longer}
use Rattle.bufr_engines.proofs.PartFacts.{held_fails, stops_failed}
use Rattle.bufr_engines.proofs.PrintingFacts.{halted, printed_more, printed_none, printed_written}

-- ---- frame by frame

pub since_none : (first : Writing) (p : Printer) → p.frames ≡ 0 → p.refused ≡ 0 → p.octets ≡ 0
    → p.written ≡ 0 → p.held.items ≡ [] → first.failed ≡ false
    → HasPrintedSince p first p first []
since_none first p frames refused inside out held works = record {
  counted = omega arith;
  printed = printed_none p.printing p.message_reader first p refl refl frames refused inside out held works;
}

pub since_more : (start : Printer) (first mid now : Writing) (p p' : Printer) (frames : List Found)
    (frame : Found) (done : Unit {0}) → HasPrintedSince start first p mid frames
    → PrintsFrame p.printing p.message_reader frame p p' mid now (Ok done)
    → p'.printing ≡ p.printing → p'.message_reader ≡ p.message_reader
    → HasPrintedSince start first p' now (frames ++ frame ∷ [])
since_more start first mid now p p' frames frame done h prints is under = record {
  counted = omega (arith, h.counted, prints.frames, length-append frames (frame ∷ []));
  printed = printed_more start.printing start.message_reader first mid now p p' frames frame done
      h.printed prints is under;
}

-- ---- a piece ends

pub held_taken : {B : Type 0} (writing : B → Writing) (p p' : Printer) (mid now : Writing)
    (r : Result (Unit {0}) ToolFault) → WritesHeld p p' mid now r → Keeps p p'
    → OnOk r ((start : Printer) (begin : B) (frames : List Found)
    → HasPrintedSince start (writing begin) p mid frames
    → HasPrintedSince start (writing begin) p' now frames)
held_taken writing p p' mid now (Ok done) w keeps = λ start begin frames h. record {
  counted = keeps.frames ∙ h.counted;
  printed = printed_written start.printing start.message_reader (writing begin) mid now p p' frames done
      h.printed w keeps;
}
held_taken writing p p' mid now (Err e) w keeps = tt

pub held_left : (p p' : Printer) (mid now : Writing) (r : Result (Unit {0}) ToolFault)
    → WritesHeld p p' mid now r → OnOk r (p'.held.items ≡ [])
held_left p p' mid now (Ok done) w = w.1
held_left p p' mid now (Err e) w = tt

pub held_stopped : {B : Type 0} (writing : B → Writing) (p p' : Printer) (mid now : Writing)
    (r : Result (Unit {0}) ToolFault) → WritesHeld p p' mid now r
    → IfErr r (λ e. (start : Printer) (begin : B) (frames : List Found)
    → HasPrintedSince start (writing begin) p mid frames
    → Stops (frames_text start.printing start.message_reader frames) (writing begin) now e)
held_stopped writing p p' mid now (Ok done) w = tt
held_stopped writing p p' mid now (Err e) w = λ start begin frames h.
    let text = frames_text start.printing start.message_reader frames in
    stops_failed text (writing begin) now e
    (held_fails p.held.items text [] text 0 p.written (writing begin) mid now e
    (sym (append-nil text)) h.printed.text w)

-- ---- the end

pub end_text : (printing : OutputForm) (tables : Entries) (stream text : List ℕ) (tally : Tally)
    → tally ≡ tally_of printing tables stream → text ≡ last_text printing tally
    → frames_text printing tables (cut stream) ++ text ≡ stream_text printing tables stream
end_text printing tables stream text tally is last =
    ap (λ (t : List ℕ). frames_text printing tables (cut stream) ++ t)
    (last ∙ ap (last_text printing) is)

pub end_tally : (printing : OutputForm) (tables : Entries) (first now : Writing) (p : Printer)
    (fed skipped : ℕ) (stream : List ℕ) → HasEnded printing tables first now p fed stream
    → skipped ≡ skipped_by p.printing fed p.octets
    → record {
      frames = p.frames;
      refused = p.refused;
      skipped = skipped;
      reports = 0;
    }
    ≡ tally_of printing tables stream
end_tally printing tables first now p fed skipped stream h is =
    let here : skipped ≡ skipped_by printing (length stream) (octets_of (cut stream)) =
    is ∙ ap (λ q. skipped_by q fed p.octets) h.printed.printing_is
    ∙ ap (λ n. skipped_by printing n p.octets) h.long
    ∙ ap (skipped_by printing (length stream)) h.printed.octets_are in
    rw (h.printed.frames_are, h.printed.refused_are, here) refl

pub end_held : (printing : OutputForm) (tables : Entries) (first mid : Writing) (p : Printer)
    (fed : ℕ) (stream held : List ℕ) (tally : Tally)
    → (h : HasEnded printing tables first mid p fed stream)
    → tally ≡ tally_of printing tables stream → held ≡ p.held.items ++ last_text p.printing tally
    → stream_text printing tables stream ≡ h.printed.text.front ++ held
end_held printing tables first mid p fed stream held tally h is held_is =
    let last = last_text p.printing tally in
    let front = h.printed.text.front in
    let told = ap (λ q. last_text q tally) h.printed.printing_is in
    sym (end_text printing tables stream last tally is told)
    ∙ ap (λ (t : List ℕ). t ++ last) h.printed.text.parted
    ∙ append_assoc front p.held.items last
    ∙ ap (λ (t : List ℕ). front ++ t) (sym held_is)

pub end_done : (printing : OutputForm) (tables : Entries) (first mid now : Writing) (p : Printer)
    (fed : ℕ) (stream held : List ℕ) (tally : Tally)
    → HasEnded printing tables first mid p fed stream → tally ≡ tally_of printing tables stream
    → held ≡ p.held.items ++ last_text p.printing tally → WritesAll mid now held
    → PrintsEnd printing tables stream first now (Ok tally)
end_done printing tables first mid now p fed stream held tally h is held_is w = (
  subst (WritesAll first now)
      (sym (end_held printing tables first mid p fed stream held tally h is held_is))
      (writes_more first mid now _ held h.printed.text.written w),
  is,
)

pub end_fails : (printing : OutputForm) (tables : Entries) (first mid now : Writing) (p : Printer)
    (fed : ℕ) (stream held : List ℕ) (tally : Tally) (e : ToolFault)
    → HasEnded printing tables first mid p fed stream → tally ≡ tally_of printing tables stream
    → held ≡ p.held.items ++ last_text p.printing tally
    → WritesAfter p.written held mid now (Err e)
    → PrintsEnd printing tables stream first now (Err e)
end_fails printing tables first mid now p fed stream held tally
    (faults.WriteFailed written) h is held_is w =
    let front = h.printed.text.front in
    let at : written ≡ length front + w.0 = omega (arith, w.1, h.printed.text.counted) in
    subst (λ n. FailsAfter n first now (stream_text printing tables stream)) (sym at)
    (subst (FailsAfter (length front + w.0) first now)
    (sym (end_held printing tables first mid p fed stream held tally h is held_is))
    (fails_more first mid now front held w.0 h.printed.text.written w.2))
end_fails printing tables first mid now p fed stream held tally e h is held_is w = absurd w

pub end_halted : (printing : OutputForm) (tables : Entries) (first now : Writing) (p p' : Printer)
    (fed : ℕ) (stream : List ℕ) → HasEnded printing tables first now p fed stream
    → fed < 2 ^ 48 → p'.held.items ≡ p.held.items → p'.written ≡ p.written
    → StopsWithin (frames_text printing tables (cut stream)) first p' now faults.OutOfMemory
end_halted printing tables first now p p' fed stream h short held written =
    let few = cut_few stream in
    let long = h.long in
    halted printing tables first now p p' (cut stream) h.printed (omega arith) held written

pub end_stopped : (printing : OutputForm) (tables : Entries) (first now : Writing)
    (stream : List ℕ) (e : ToolFault)
    → Stops (frames_text printing tables (cut stream)) first now e
    → PrintsEnd printing tables stream first now (Err e)
end_stopped printing tables first now stream (faults.WriteFailed written) s =
    fails_longer first now _ _ written s
end_stopped printing tables first now stream faults.OutOfMemory s = s
end_stopped printing tables first now stream e s = absurd s
