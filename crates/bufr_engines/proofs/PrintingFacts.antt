-- Frame by frame, the printer prints and counts: for `print_frame`, and so for `run_show` and
-- `run_check`.
use Rattle.std.proofs.Common.{◌≡◌, ℕ, ◌+◌, ◌*◌, ◌^◌, ◌<◌, ◌≤◌, false, inl, List, []}
use Rattle.std.proofs.Common.{◌∷◌, ◌++◌, length}
use Rattle.std.proofs.Common.{Result, Ok, Err, refl, sym, ap, ◌∙◌, subst, arith}
use Rattle.std.proofs.Common.{length-append}
use Rattle.std.specs.List.{sum_by, slice_index_or}
use Rattle.std.proofs.lemmas.List.{append-nil, flat_map_more}
use Rattle.std.proofs.lemmas.List.Sums.{sum_by_push, sum_by-le}
use Rattle.std.proofs.lemmas.Grind.{flat_map-append}
use Rattle.bufr_bits.specs.Devices.{Writing}
use Rattle.bufr_tables.specs.Entries.{Entries}
use Rattle.bufr_frame.specs.declared.frames.Found.{Found}
use Rattle.bufr_message.specs.declared.Refused.{Refused}
use Rattle.bufr_message.specs.declared.Decoded.{Decoded}
use Rattle.bufr_message.specs.Messages.{message_of}
use Rattle.bufr_engines.specs.declared.printer.Printer.{Printer}
use Rattle.bufr_io.specs.declared.fault.ToolFault.{ToolFault}
use Rattle.bufr_io.specs.declared.fault.ToolFault.TheVariants as faults
use Rattle.bufr_engines.specs.declared.frame_lines.OutputForm.{OutputForm}
use Rattle.bufr_io.specs.Engines.{FailsAfter}
use Rattle.bufr_engines.specs.Refusals.{frame_refused, refused_as}
use Rattle.bufr_engines.specs.Output.{frame_text, frames_text}
use Rattle.bufr_engines.specs.StreamEngines.{Fits, HasPrinted, Keeps, PrintsFrame}
use Rattle.bufr_engines.specs.StreamEngines.{StopsWithin, WritesAllBut, WritesHeld, WritesPart}
use Rattle.bufr_engines.proofs.LineFacts.{frame_whole}
use Rattle.bufr_engines.proofs.PartFacts.{adds_written, but_all, counted_all, held_less}
use Rattle.bufr_engines.proofs.PartFacts.{held_more, held_none, some_all, within_more}
use Rattle.bufr_io.specs.WritingLaws.{fails_longer}

pub text_more : (printing : OutputForm) (tables : Entries) (frames : List Found) (frame : Found)
    → frames_text printing tables (frames ++ frame ∷ [])
    ≡ frames_text printing tables frames ++ frame_text printing tables frame
text_more printing tables frames frame =
    sym (flat_map_more (frame_text printing tables) [] frames frame)

pub text_append : (printing : OutputForm) (tables : Entries) (frames more : List Found)
    → frames_text printing tables (frames ++ more)
    ≡ frames_text printing tables frames ++ frames_text printing tables more
text_append printing tables frames more = flat_map-append (frame_text printing tables) frames more

pub frame_ends : (printing : OutputForm) (tables : Entries) (frame : Found) (p q p' : Printer)
    (first mid last : Writing) (r : Result (Unit {0}) ToolFault)
    → WritesPart q p' mid last r → Keeps q p'
    → p'.written + length p'.held.items < q.written + 2 ^ 64
    → WritesAllBut q.held.items (p.held.items ++ frame_text printing tables frame)
    p.written q.written first mid
    → q.frames ≡ p.frames + 1
    → q.refused ≡ p.refused + frame_refused tables frame
    → q.octets ≡ p.octets + length frame.bytes
    → q.written + 2 ^ 64 ≤ p.written + 2 ^ 80
    → p.written + 2 ^ 80 ≤ 2 ^ 128
    → PrintsFrame printing tables frame p p' first last r
frame_ends printing tables frame p q p' first mid last (Ok done) part keeps short w frames refused
    octets most fits =
    let text = frame_text printing tables frame in
    let all = held_less q.held.items p'.held.items (p.held.items ++ text) p.written
    q.written p'.written first mid last w part in
    record {
      text = all;
      frames = keeps.frames ∙ frames;
      refused = keeps.refused ∙ refused;
      octets = keeps.octets ∙ octets;
      short =
          let a = counted_all _ _ _ _ _ _ all in
          let b = length-append p.held.items text in
          omega (arith, a, b, most, short);
    }
frame_ends printing tables frame p q p' first mid last (Err e) part keeps short w frames refused
    octets most fits = (
      adds_written (frame_text printing tables frame) p q p' first mid last (Err e) w part,
      λ long. omega (arith, most, short, fits),
    )

pub printed_none : (printing : OutputForm) (tables : Entries) (first : Writing) (p : Printer)
    → p.printing ≡ printing → p.message_reader ≡ tables → p.frames ≡ 0 → p.refused ≡ 0 → p.octets ≡ 0
    → p.written ≡ 0 → p.held.items ≡ [] → first.failed ≡ false
    → HasPrinted printing tables first first p []
printed_none printing tables first p is under frames refused inside out held works = record {
  printing_is = is;
  tables_are = under;
  text = subst (λ n. WritesAllBut p.held.items [] 0 n first first) (sym out)
      (but_all p.held.items [] 0 first (sym held) (inl held) works);
  frames_are = frames;
  refused_are = refused;
  octets_are = inside;
  short = omega arith;
}

pub told : (printing : OutputForm) (tables : Entries) (first mid now : Writing) (p p' : Printer)
    (frames : List Found) (frame : Found) (r : Result (Unit {0}) ToolFault)
    → HasPrinted printing tables first mid p frames
    → PrintsFrame p.printing p.message_reader frame p p' mid now r
    → PrintsFrame printing tables frame p p' mid now r
told printing tables first mid now p p' frames frame r h prints =
    subst (λ q. PrintsFrame q tables frame p p' mid now r) h.printing_is
    (subst (λ t. PrintsFrame p.printing t frame p p' mid now r) h.tables_are prints)

pub printed_more : (printing : OutputForm) (tables : Entries) (first mid now : Writing)
    (p p' : Printer) (frames : List Found) (frame : Found) (done : Unit {0})
    → HasPrinted printing tables first mid p frames
    → PrintsFrame p.printing p.message_reader frame p p' mid now (Ok done)
    → p'.printing ≡ p.printing → p'.message_reader ≡ p.message_reader
    → HasPrinted printing tables first now p' (frames ++ frame ∷ [])
printed_more printing tables first mid now p p' frames frame done h prints is under =
    let a = told printing tables first mid now p p' frames frame (Ok done) h prints in
    let whole = text_more printing tables frames frame in
    let here = frame_text printing tables frame in
    let there = frames_text printing tables frames in
    record {
      printing_is = is ∙ h.printing_is;
      tables_are = under ∙ h.tables_are;
      text = subst (λ (t : List ℕ). WritesAllBut p'.held.items t 0 p'.written first now)
          (sym whole)
          (held_less (p.held.items ++ here) p'.held.items (there ++ here) 0 p.written
          p'.written first mid now
          (held_more p.held.items there here _ _ 0 p.written first mid refl refl
          (frame_whole printing tables frame) h.text)
          a.text);
      frames_are = a.frames ∙ ap (λ n. n + 1) h.frames_are
          ∙ sym (length-append frames (frame ∷ []));
      refused_are = a.refused ∙ ap (λ n. n + frame_refused tables frame) h.refused_are
          ∙ sym (sum_by_push (frame_refused tables) frames frame);
      octets_are = a.octets ∙ ap (λ n. n + length frame.bytes) h.octets_are
          ∙ sym (sum_by_push (λ f. length f.bytes) frames frame);
      short =
          let b = length-append frames (frame ∷ []) in
          let e = ap length whole ∙ length-append there here in
          let s = h.short in let t = a.short in omega arith;
    }

pub printed_written : (printing : OutputForm) (tables : Entries) (first mid now : Writing)
    (p p' : Printer) (frames : List Found) (done : Unit {0})
    → HasPrinted printing tables first mid p frames → WritesHeld p p' mid now (Ok done)
    → Keeps p p' → HasPrinted printing tables first now p' frames
printed_written printing tables first mid now p p' frames done h w keeps = record {
  printing_is = keeps.printing ∙ h.printing_is;
  tables_are = keeps.tables ∙ h.tables_are;
  text = held_none p.held.items p'.held.items (frames_text printing tables frames) 0
      p.written p'.written first mid now h.text w.0 w.1 w.2;
  frames_are = keeps.frames ∙ h.frames_are;
  refused_are = keeps.refused ∙ h.refused_are;
  octets_are = keeps.octets ∙ h.octets_are;
  short = h.short;
}

pub printed_short : (printing : OutputForm) (tables : Entries) (first now : Writing) (p : Printer)
    (frames : List Found) → HasPrinted printing tables first now p frames
    → p.written + length p.held.items + p.frames ≤ 2 ^ 80 * p.frames
printed_short printing tables first now p frames h =
    omega (arith, counted_all _ _ _ _ _ _ h.text, h.short, h.frames_are)

pub printed_fits : (printing : OutputForm) (tables : Entries) (first now : Writing) (p : Printer)
    (frames : List Found) → HasPrinted printing tables first now p frames
    → length frames ≤ 2 ^ 48 → Fits p
printed_fits printing tables first now p frames h few = λ long.
    omega (arith, counted_all _ _ _ _ _ _ h.text, h.short, few)

pub fails_further : (printing : OutputForm) (tables : Entries) (first now : Writing)
    (frames more : List Found) (written : ℕ)
    → FailsAfter written first now (frames_text printing tables frames)
    → FailsAfter written first now (frames_text printing tables (frames ++ more))
fails_further printing tables first now frames more written h =
    subst (FailsAfter written first now) (sym (text_append printing tables frames more))
    (fails_longer first now _ _ written h)

pub refused_few : (f : Found → ℕ) (frames : List Found) → ((x : Found) → f x ≤ 1)
    → sum_by f frames ≤ length frames
refused_few f frames most =
    omega (arith, sum_by-le f 1 frames (λ k d lt. most (slice_index_or frames k d)))

pub refused_one : (tables : Entries) (frame : Found) → frame_refused tables frame ≤ 1
refused_one tables frame =
    elim (message_of tables frame.bytes) as (λ (r : Result Decoded Refused). refused_as r ≤ 1)
    [ Ok found ↦ omega arith | Err why ↦ omega arith ]

pub refused_at_most : (printing : OutputForm) (tables : Entries) (first now : Writing)
    (p : Printer) (frames : List Found) → HasPrinted printing tables first now p frames
    → p.refused ≤ p.frames
refused_at_most printing tables first now p frames h =
    let a = h.refused_are in let b = h.frames_are in
    omega (arith, refused_few (frame_refused tables) frames (refused_one tables))

pub stopped : (printing : OutputForm) (tables : Entries) (first mid now : Writing)
    (p p' : Printer) (frames : List Found) (frame : Found) (e : ToolFault)
    → HasPrinted printing tables first mid p frames
    → PrintsFrame p.printing p.message_reader frame p p' mid now (Err e)
    → StopsWithin (frames_text printing tables (frames ++ frame ∷ [])) first p' now e
stopped printing tables first mid now p p' frames frame e h prints =
    let a = told printing tables first mid now p p' frames frame (Err e) h prints in
    subst (λ (t : List ℕ). StopsWithin t first p' now e)
    (sym (text_more printing tables frames frame))
    (within_more (frames_text printing tables frames) (frame_text printing tables frame) first mid
    now p p' e (frame_whole printing tables frame) h.text a.0 a.1)

pub halted : (printing : OutputForm) (tables : Entries) (first now : Writing) (p p' : Printer)
    (frames : List Found) → HasPrinted printing tables first now p frames
    → length frames ≤ 2 ^ 48 → p'.held.items ≡ p.held.items → p'.written ≡ p.written
    → StopsWithin (frames_text printing tables frames) first p' now faults.OutOfMemory
halted printing tables first now p p' frames h few held written =
    let fits = printed_fits printing tables first now p frames h few in
    let text = frames_text printing tables frames in (
      some_all p'.held.items text [] text 0 p'.written first now (sym (append-nil text))
          (subst (λ n. WritesAllBut p'.held.items text 0 n first now) (sym written)
          (subst (λ (t : List ℕ). WritesAllBut t text 0 p.written first now) (sym held)
          h.text)),
      λ long. let a = ap length held in omega (arith, fits (omega (arith, long, a)), a, written),
    )
