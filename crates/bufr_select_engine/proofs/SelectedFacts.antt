-- The frames of an input that are selected one after another: the steps of `take_frame`, `end_piece` and
-- `halt`, and so of the contract of `run_select`.
use Rattle.std.proofs.Common.{◌≡◌, ℕ, ◌+◌, ◌≤◌, ◌^◌, Bool, true, false, List, [], ◌∷◌, ◌++◌}
use Rattle.std.proofs.Common.{length, Result, Ok, Err, IfErr, OnOk, refl, sym, ap, ◌∙◌, subst, arith, append_assoc}
use Rattle.std.proofs.Common.{length-append}
use Rattle.std.specs.List.{slice_index_or}
use Rattle.std.proofs.lemmas.List.{append-nil}
use Rattle.std.proofs.lemmas.List.Sums.{sum_by_push, sum_by-le}
use Rattle.bufr_bits.specs.Devices.{Reading, Writing}
use Rattle.bufr_message.specs.declared.Decoded.{Decoded}
use Rattle.bufr_frame.specs.declared.frames.Found.{Found}
use Rattle.bufr_frame.specs.FrameBounds.{cut_few}
use Rattle.bufr_frame.specs.Streams.{cut, sure}
use Rattle.bufr_io.specs.declared.fault.Input.TheVariants.{Number}
use Rattle.bufr_io.specs.declared.fault.ToolFault.{ToolFault}
use Rattle.bufr_io.specs.declared.fault.ToolFault.TheVariants as faults
use Rattle.bufr_io.specs.declared.input.Pieces.{Pieces}
use Rattle.bufr_io.specs.Engines.{AreAllOf, HasGiven, WasReadOut}
use Rattle.bufr_io.specs.Inputs.{ReadsOn}
use Rattle.bufr_io.specs.Numbered.{frames_from}
use Rattle.bufr_io.specs.Reached.{frames_by}
use Rattle.bufr_io.specs.ReachedLaws.{frames_from-append, frames_from-more}
use Rattle.bufr_io.specs.Taking.{EndsEarly, unread, at_piece, at_end}
use Rattle.bufr_io.specs.WritingLaws.{fails_longer}
use Rattle.bufr_io.specs.HeldTexts.{IsStop, Puts, StopsPutting, StopsWriting}
use Rattle.bufr_io.specs.HeldTexts.{WritesHeld}
use Rattle.bufr_select_engine.specs.Tells.{Tells}
use Rattle.bufr_io.specs.declared.held_rows.HeldRows.{HeldRows}
use Rattle.bufr_select_rows.specs.Pairs.{message_under}
use Rattle.bufr_select_engine.specs.Selected.{Selection, frame_refusal, frame_refused, frame_rows}
use Rattle.bufr_select_engine.specs.Selected.{refused_as, refused_of}
use Rattle.bufr_select_engine.specs.Selectors.{AreHeard, CountsFrame, HasSelected}
use Rattle.bufr_select_engine.specs.Selectors.{HasSelectedFrames, IsReady, Keeps, SelectsInput}
use Rattle.bufr_select_engine.specs.Selectors.{StopsSelecting, TellsFirst, refusals_of, rows_of}
use Rattle.bufr_select_engine.specs.Selectors.{selection_of}
use Rattle.bufr_select_engine.specs.Selects.{Writings}
use Rattle.bufr_select_rows.specs.declared.pairs.Unread.{Unread}
use Rattle.bufr_select_engine.specs.declared.frame_selector.FrameSelector.{FrameSelector}
use Rattle.bufr_io.specs.HeldLaws.{puts_more, puts_none, rows_written, stop_fault}
use Rattle.bufr_io.specs.HeldLaws.{stops_writing}
use Rattle.bufr_select_engine.proofs.ToldFacts.{tells_more, tells_none}

-- ---- counts

-- a frame is refused at most once
refused_one : (s : Selection) (frame : Found) → frame_refused s frame ≤ 1
refused_one s frame =
    elim (message_under s.pairs frame.bytes) as (λ (r : Result Decoded Unread). refused_as r ≤ 1)
    [ Ok found ↦ omega arith | Err why ↦ omega arith ]

-- no more frames are refused than there are
pub refused_few : (s : Selection) (frames : List Found) → refused_of s frames ≤ length frames
refused_few s frames =
    omega (
      arith,
      sum_by-le (frame_refused s) 1 frames (λ k d lt. refused_one s (slice_index_or frames k d)),
    )

-- ---- what stays

keeps_all : (p q r : FrameSelector) → Keeps p q → Keeps q r → Keeps p r
keeps_all p q r one two = record {
  selection = two.selection ∙ one.selection;
  input = two.input ∙ one.input;
}

-- ---- a frame more

-- the rows of one frame more
rows_next : (first p : FrameSelector) (frames : List Found) (frame : Found) → Keeps first p
    → p.frames ≡ length frames
    → rows_of first frames ++ frame_rows (selection_of p) p.input (p.frames + 1) frame
    ≡ rows_of first (frames ++ frame ∷ [])
rows_next first p frames frame keeps count =
    let at : p.frames + 1 ≡ 1 + length frames = omega (arith, count) in
    ap (λ s. rows_of first frames ++ frame_rows s p.input (p.frames + 1) frame) keeps.selection
    ∙ ap (λ i. rows_of first frames ++ frame_rows (selection_of first) i (p.frames + 1) frame)
    keeps.input
    ∙ sym
    (frames_from-more (frame_rows (selection_of first) first.input) 1 (p.frames + 1) frames frame at)

-- so it is with the refusals
refusals_next : (first p : FrameSelector) (frames : List Found) (frame : Found) → Keeps first p
    → p.frames ≡ length frames
    → refusals_of first frames ++ frame_refusal (selection_of p) p.input (p.frames + 1) frame
    ≡ refusals_of first (frames ++ frame ∷ [])
refusals_next first p frames frame keeps count =
    let at : p.frames + 1 ≡ 1 + length frames = omega (arith, count) in
    ap (λ s. refusals_of first frames ++ frame_refusal s p.input (p.frames + 1) frame) keeps.selection
    ∙ ap (λ i. refusals_of first frames ++ frame_refusal (selection_of first) i (p.frames + 1) frame)
    keeps.input
    ∙ sym
    (frames_from-more (frame_refusal (selection_of first) first.input) 1 (p.frames + 1) frames frame
    at)

-- a frame more was taken
pub selected_more : (first : FrameSelector) (begin : Writings) (p p' : FrameSelector) (now now' : Writings)
    (frames : List Found) (frame : Found) (done : Unit {0}) → HasSelected first begin p now frames
    → CountsFrame p frame now p' now' (Ok done) → Keeps p p'
    → HasSelected first begin p' now' (frames ++ frame ∷ [])
selected_more first begin p p' now now' frames frame done h more keeps =
    let long = length-append frames (frame ∷ []) in
    record {
      started = h.started;
      counts = omega (arith, h.counts, more.5, long);
      keeps = keeps_all first p p' h.keeps keeps;
      frames_are = omega (arith, h.frames_are, more.5, long);
      refused_are = more.2 ∙ ap (λ n. n + frame_refused (selection_of p) frame) h.refused_are
          ∙ ap (λ s. refused_of (selection_of first) frames + frame_refused s frame)
          h.keeps.selection
          ∙ sym (sum_by_push (frame_refused (selection_of first)) frames frame);
      ready = more.3;
      heard = more.4;
      rows = subst (λ t. Puts t first.rows begin.rows p'.rows now'.rows)
          (rows_next first p frames frame h.keeps h.frames_are)
          (puts_more (rows_of first frames) _ first.rows p.rows p'.rows begin.rows now.rows now'.rows
          h.rows more.0);
      told = subst (λ t. Tells t first.unheard begin.refusals p'.unheard now'.refusals)
          (refusals_next first p frames frame h.keeps h.frames_are)
          (tells_more (refusals_of first frames) _ first.unheard p.unheard p'.unheard
          begin.refusals now.refusals now'.refusals h.told more.1);
    }

-- the refusals of the frames so far were told, and no more
told_still : (first : FrameSelector) (begin : Writings) (p p' : FrameSelector) (now now' : Writings)
    (frames : List Found) → HasSelected first begin p now frames → p'.unheard ≡ p.unheard
    → now'.refusals ≡ now.refusals
    → Tells (refusals_of first frames) first.unheard begin.refusals p'.unheard now'.refusals
told_still first begin p p' now now' frames h unheard same =
    subst (λ (w : Writing). Tells (refusals_of first frames) first.unheard begin.refusals p'.unheard w)
    (sym same)
    (subst (λ u. Tells (refusals_of first frames) first.unheard begin.refusals u now.refusals)
    (sym unheard) h.told)

-- so they are those of the first of these frames
told_all : (first : FrameSelector) (begin : Writings) (p p' : FrameSelector) (now now' : Writings)
    (frames : List Found) → HasSelected first begin p now frames → p'.unheard ≡ p.unheard
    → now'.refusals ≡ now.refusals → TellsFirst first begin p' now' frames
told_all first begin p p' now now' frames h unheard same = record {
  done = frames;
  rest = [];
  parted = sym (append-nil frames);
  told = told_still first begin p p' now now' frames h unheard same;
}

-- taking it stopped, and then the rows that wait were written
pub selecting_stopped : (first : FrameSelector) (begin : Writings) (p p' p'' : FrameSelector)
    (now now' now'' : Writings) (frames : List Found) (frame : Found) (e e' : ToolFault)
    → HasSelected first begin p now frames → CountsFrame p frame now p' now' (Err e)
    → p''.unheard ≡ p'.unheard → now''.refusals ≡ now'.refusals → IsStop e'
    → ((start : Writing) (text : List ℕ) → StopsPutting start text p'.rows now'.rows e
    → StopsWriting start text now''.rows e')
    → StopsSelecting first begin p'' now'' (frames ++ frame ∷ []) e'
selecting_stopped first begin p p' p'' now now' now'' frames frame e e' h takes unheard same is stop =
    record {
      stops = is;
      rows = λ start before put.
          subst (λ t. StopsWriting start t now''.rows e')
          (append_assoc before (rows_of first frames) _
          ∙ ap (λ (t : List ℕ). before ++ t) (rows_next first p frames frame h.keeps h.frames_are))
          (stop start _ (takes.0.1 start (before ++ rows_of first frames) (h.rows start before put)));
      told = record {
        done = frames;
        rest = frame ∷ [];
        parted = refl;
        told = told_still first begin p p'' now now'' frames h (unheard ∙ takes.2)
            (same ∙ takes.1);
      };
    }

-- memory ran out after these frames, and then the rows that wait were written
pub selecting_halted : (first : FrameSelector) (begin : Writings) (p p' : FrameSelector) (now now' : Writings)
    (frames : List Found) (e : ToolFault) → HasSelected first begin p now frames
    → p'.unheard ≡ p.unheard → now'.refusals ≡ now.refusals → IsStop e
    → ((start : Writing) (text : List ℕ)
    → StopsPutting start text p.rows now.rows faults.OutOfMemory
    → StopsWriting start text now'.rows e)
    → StopsSelecting first begin p' now' frames e
selecting_halted first begin p p' now now' frames e h unheard same is stop = record {
  stops = is;
  rows = λ start before put. stop start (before ++ rows_of first frames)
      (record {
        front = before ++ rows_of first frames;
        rest = [];
        parted = sym (append-nil (before ++ rows_of first frames));
        done = h.rows start before put;
      });
  told = told_all first begin p p' now now' frames h unheard same;
}

-- ---- a piece ends

-- the rows that wait were written, and the frames are selected still
pub selected_written : (first : FrameSelector) (begin : Writings) (p p' : FrameSelector) (now now' : Writings)
    (frames : List Found) (done : Unit {0}) → HasSelected first begin p now frames
    → WritesHeld p.rows p'.rows now.rows now'.rows (Ok done) → p' ≡ record p { rows = p'.rows }
    → now'.refusals ≡ now.refusals → HasSelected first begin p' now' frames
selected_written first begin p p' now now' frames done h writes same refusals = record {
  started = h.started;
  counts = ap (λ (x : FrameSelector). x.frames) same ∙ h.counts;
  keeps = record {
    selection = ap selection_of same ∙ h.keeps.selection;
    input = ap (λ (x : FrameSelector). x.input) same ∙ h.keeps.input;
  };
  frames_are = ap (λ (x : FrameSelector). x.frames) same ∙ h.frames_are;
  refused_are = ap (λ (x : FrameSelector). x.refused) same ∙ h.refused_are;
  ready = subst IsReady (sym same) (record { cells = h.ready.cells; covers = h.ready.covers });
  heard = record {
    works = writes.0.works;
    heard = ap (λ (w : Writing). w.failed) refusals ∙ h.heard.heard
        ∙ sym (ap (λ (x : FrameSelector). x.unheard) same);
  };
  rows = λ start before put.
      rows_written start (before ++ rows_of first frames) p.rows p'.rows now.rows now'.rows
      (h.rows start before put) writes.0 writes.1 writes.2;
  told = told_still first begin p p' now now' frames h (ap (λ (x : FrameSelector). x.unheard) same)
      refusals;
}

-- the fault is one of those
pub is_stop : (r r' : HeldRows) (w w' : Writing) (result : Result (Unit {0}) ToolFault) (e : ToolFault)
    → WritesHeld r r' w w' result → e ≡ stop_fault result → IsStop e
is_stop r r' w w' (Ok done) e writes is = subst IsStop (sym is) tt
is_stop r r' w w' (Err faults.OutOfMemory) e writes is = subst IsStop (sym is) tt
is_stop r r' w w' (Err (faults.WriteFailed written)) e writes is = subst IsStop (sym is) tt
is_stop r r' w w' (Err fault) e writes is = absurd writes

-- or that stopped
pub written_stopped : (first : FrameSelector) (begin : Writings) (p p' : FrameSelector) (now now' : Writings)
    (frames : List Found) (result : Result (Unit {0}) ToolFault) (e : ToolFault)
    → HasSelected first begin p now frames
    → WritesHeld p.rows p'.rows now.rows now'.rows result → e ≡ stop_fault result
    → p'.unheard ≡ p.unheard → now'.refusals ≡ now.refusals
    → StopsSelecting first begin p' now' frames e
written_stopped first begin p p' now now' frames result e h writes is unheard refusals = record {
  stops = is_stop p.rows p'.rows now.rows now'.rows result e writes is;
  rows = λ start before put.
      stops_writing start (before ++ rows_of first frames) p.rows p'.rows now.rows now'.rows result e
      (record {
        front = before ++ rows_of first frames;
        rest = [];
        parted = sym (append-nil (before ++ rows_of first frames));
        done = h.rows start before put;
      }) writes is;
  told = told_all first begin p p' now now' frames h unheard refusals;
}

-- the frames are selected still after a piece
pub piece_taken : {B : Type 0} (writings : B → Writings) (p p' : FrameSelector) (now now' : Writings)
    (r : Result (Unit {0}) ToolFault) → WritesHeld p.rows p'.rows now.rows now'.rows r
    → p' ≡ record p { rows = p'.rows } → now'.refusals ≡ now.refusals
    → OnOk r ((first : FrameSelector) (begin : B) (frames : List Found)
    → HasSelected first (writings begin) p now frames
    → HasSelected first (writings begin) p' now' frames)
piece_taken writings p p' now now' (Ok done) writes same refusals =
    λ first begin frames h. selected_written first (writings begin) p p' now now' frames done h writes
    same refusals
piece_taken writings p p' now now' (Err e) writes same refusals = tt

-- or the writer failed
pub piece_stopped : {B : Type 0} (writings : B → Writings) (p p' : FrameSelector) (now now' : Writings)
    (r : Result (Unit {0}) ToolFault) → WritesHeld p.rows p'.rows now.rows now'.rows r
    → p'.unheard ≡ p.unheard → now'.refusals ≡ now.refusals
    → IfErr r (λ e. (first : FrameSelector) (begin : B) (frames : List Found)
    → HasSelected first (writings begin) p now frames
    → StopsSelecting first (writings begin) p' now' frames e)
piece_stopped writings p p' now now' (Ok done) writes unheard refusals = tt
piece_stopped writings p p' now now' (Err e) writes unheard refusals =
    λ first begin frames h. written_stopped first (writings begin) p p' now now' frames (Err e) e h
    writes refl unheard refusals

-- ---- the first frame

-- before it, nothing was selected
pub selected_none : (p : FrameSelector) (w : Writings) → p.frames ≡ 0 → p.refused ≡ 0 → IsReady p
    → AreHeard p w → HasSelected p w p w []
selected_none p w none unrefused ready heard = record {
  started = none;
  counts = omega (arith, none);
  keeps = record { selection = refl; input = refl };
  frames_are = none;
  refused_are = unrefused;
  ready = ready;
  heard = heard;
  rows = puts_none p.rows w.rows;
  told = tells_none p.unheard w.refusals;
}

-- ---- an input

-- selecting stopped among some frames: so it did among more
pub stops_further : (first : FrameSelector) (begin : Writings) (p : FrameSelector) (now : Writings)
    (front rest frames : List Found) (e : ToolFault) → frames ≡ front ++ rest
    → StopsSelecting first begin p now front e → StopsSelecting first begin p now frames e
stops_further first begin p now front rest frames e is s =
    let n = 1 + length front in
    let rows : rows_of first frames ≡ rows_of first front
    ++ frames_from (frame_rows (selection_of first) first.input) n rest =
    ap (rows_of first) is
    ∙ frames_from-append (frame_rows (selection_of first) first.input) 1 front rest in
    record {
      stops = s.stops;
      rows = λ start before put.
          subst (λ t. StopsWriting start t now.rows e)
          (append_assoc before (rows_of first front) _
          ∙ ap (λ (t : List ℕ). before ++ t) (sym rows))
          (stops_writing_longer start (before ++ rows_of first front) _ now.rows e
          (s.rows start before put));
      told = record {
        done = s.told.done;
        rest = s.told.rest ++ rest;
        parted = is ∙ ap (λ fs. fs ++ rest) s.told.parted
            ∙ append_assoc s.told.done s.told.rest rest;
        told = s.told.told;
      };
    }
  where
    stops_writing_longer : (start : Writing) (a b : List ℕ) (w : Writing) (f : ToolFault)
        → StopsWriting start a w f → StopsWriting start (a ++ b) w f
    stops_writing_longer start a b w (faults.WriteFailed written) t = fails_longer start w a b written t
    stops_writing_longer start a b w faults.OutOfMemory t = record {
      front = t.front;
      rest = t.rest ++ b;
      parted = ap (λ (x : List ℕ). x ++ b) t.parted ∙ append_assoc t.front t.rest b;
      whole = t.whole;
      written = t.written;
    }
    stops_writing_longer start a b w f t = absurd t

-- the rows of frames, and none that waits
selected_frames : (first : FrameSelector) (begin : Writings) (p : FrameSelector) (now : Writings)
    (frames : List Found) → HasSelected first begin p now frames → p.rows.held.items ≡ []
    → HasSelectedFrames first p frames begin now
selected_frames first begin p now frames h none =
    record { rows = h.rows; told = h.told; held = none }

-- no piece came after these octets, and no row waits
input_unread : (reads : ℕ) (old new : Reading) (pieces : Pieces) (read : List ℕ)
    (first p : FrameSelector) (begin now : Writings) (e : ToolFault)
    → HasSelected first begin p now (sure read) → p.rows.held.items ≡ []
    → ReadsOn (Number first.input) reads old new pieces read (Err e)
    → SelectsInput reads first p old new begin now (Err e)
input_unread reads old new pieces read first p begin now (faults.ReadFailed which) h none r =
    (r.0, r.1, read, r.2, selected_frames first begin p now (sure read) h none)
input_unread reads old new pieces read first p begin now (faults.EndlessInput which) h none r =
    (r.0, r.1, read, r.2, selected_frames first begin p now (sure read) h none)
input_unread reads old new pieces read first p begin now e h none r = absurd r

-- selecting stopped among the frames that were found in what was read
input_stopped : (reads : ℕ) (old new : Reading) (read : List ℕ) (ended : Bool) (first p : FrameSelector)
    (begin now : Writings) (e : ToolFault) → new.failed ≡ false → HasGiven old new read
    → new.met_end ≡ ended → (ended ≡ true → AreAllOf old read)
    → StopsSelecting first begin p now (frames_by ended read) e
    → SelectsInput reads first p old new begin now (Err e)
input_stopped reads old new read ended first p begin now (faults.ReadFailed which) works given is all s =
    absurd s.stops
input_stopped reads old new read ended first p begin now (faults.EndlessInput which) works given is all
    s =
    absurd s.stops
input_stopped reads old new read ended first p begin now (faults.WriteFailed n) works given is all s = (
  frames_by ended read,
  (works, read, given, (λ met. all (sym is ∙ met)), ap (λ b. frames_by b read) (sym is)),
  s,
)
input_stopped reads old new read ended first p begin now faults.OutOfMemory works given is all s = (
  frames_by ended read,
  (works, read, given, (λ met. all (sym is ∙ met)), ap (λ b. frames_by b read) (sym is)),
  s,
)
input_stopped reads old new read ended first p begin now e works given is all s = absurd s.stops

-- an open end is no end
not_ended : (P : Type 0) → false ≡ true → P
not_ended P is = cc

-- an input that was not taken in to its end
pub input_early : (reads : ℕ) (old new : Reading) (first p : FrameSelector) (begin now : Writings)
    (e : ToolFault)
    → EndsEarly (HasSelected first begin p now) (p.rows.held.items ≡ [])
    (StopsSelecting first begin p now) (Number first.input) reads old new e
    → SelectsInput reads first p old new begin now (Err e)
input_early reads old new first p begin now e (unread pieces read r h none) =
    input_unread reads old new pieces read first p begin now e h none r
input_early reads old new first p begin now e (at_piece read count on s) =
    input_stopped reads old new read false first p begin now e on.works on.so_far on.met_end
    (not_ended (AreAllOf old read))
    (stops_further first begin p now s.front s.rest (sure read) e s.parted s.stopped)
input_early reads old new first p begin now e (at_end stream out all given s) =
    input_stopped reads old new stream true first p begin now e out.works given out.met_end
    (λ met. all)
    (stops_further first begin p now s.front s.rest (cut stream) e s.parted s.stopped)

-- an input came to its end, and the writer takes the rows that wait
pub input_whole : (reads : ℕ) (old new : Reading) (first p p' : FrameSelector) (begin mid now : Writings)
    (stream : List ℕ) (r : Result (Unit {0}) ToolFault) → WasReadOut new → AreAllOf old stream
    → HasGiven old new stream → HasSelected first begin p mid (cut stream)
    → length stream ≤ 2 ^ 48 → WritesHeld p.rows p'.rows mid.rows now.rows r
    → p' ≡ record p { rows = p'.rows } → now.refusals ≡ mid.refusals
    → SelectsInput reads first p' old new begin now r
input_whole reads old new first p p' begin mid now stream (Ok done) out all given h long w same
    refusals =
    let more = selected_written first begin p p' mid now (cut stream) done h w same refusals in (
      out,
      stream,
      all,
      record {
        selected = selected_frames first begin p' now (cut stream) more w.1;
        keeps = more.keeps;
        ready = more.ready;
        heard = more.heard;
        frames = more.frames_are;
        refused = more.refused_are;
        few = omega (arith, cut_few stream, long);
      },
    )
input_whole reads old new first p p' begin mid now stream (Err e) out all given h long w same
    refusals =
    input_stopped reads old new stream true first p' begin now e out.works given out.met_end
    (λ met. all)
    (written_stopped first begin p p' mid now (cut stream) (Err e) e h w refl
    (ap (λ (x : FrameSelector). x.unheard) same) refusals)
