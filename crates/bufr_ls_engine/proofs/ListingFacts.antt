-- The frames of an input that are listed one after another: the steps of `take_frame`, `end_piece`
-- and `halt`, and so of the contract of `run_ls`.
use Rattle.std.proofs.Common.{◌≡◌, ℕ, ◌+◌, ◌≤◌, inl, inr, List, [], ◌∷◌, ◌++◌, length}
use Rattle.std.proofs.Common.{Result, Ok, Err, OnOk, sym, ap, ◌∙◌, subst, arith, append_assoc}
use Rattle.std.proofs.Common.{length-append}
use Rattle.std.specs.Prelude.{IfErr}
use Rattle.std.specs.List.{slice_index_or}
use Rattle.std.proofs.lemmas.List.{append-nil}
use Rattle.std.proofs.lemmas.List.Sums.{sum_by_push, sum_by-le}
use Rattle.bufr_bits.specs.Devices.{Writing}
use Rattle.bufr_sections.specs.Sections.{Envelope, envelope_of}
use Rattle.bufr_sections.specs.declared.fault.Refused.{Refused}
use Rattle.bufr_frame.specs.declared.frames.Found.{Found}
use Rattle.bufr_io.specs.declared.fault.ToolFault.{ToolFault}
use Rattle.bufr_io.specs.declared.fault.ToolFault.TheVariants as faults
use Rattle.bufr_io.specs.declared.held_rows.HeldRows.{HeldRows}
use Rattle.bufr_io.specs.Engines.{FailsAfter, WritesAll}
use Rattle.bufr_io.specs.HeldTexts.{WritesHeld}
use Rattle.bufr_io.specs.Numbered.{frames_from}
use Rattle.bufr_io.specs.ReachedLaws.{frames_from-append, frames_from-more}
use Rattle.bufr_io.specs.WritingLaws.{fails_longer, fails_more, writes_more}
use Rattle.bufr_ls_engine.specs.Listers.{HasListed, HoldsRow, IsUnchanged, Stops}
use Rattle.bufr_ls_engine.specs.Listers.{StopsListing, WritesRows}
use Rattle.bufr_ls_engine.specs.Rows.{frame_refused, refused_as, refused_of, row, rows}
use Rattle.bufr_ls_engine.specs.declared.column.Column.{Column}
use Rattle.bufr_ls_engine.specs.declared.lister.Lister.{Lister}

-- ---- counts

-- a frame is refused at most once
refused_one : (frame : Found) → frame_refused frame ≤ 1
refused_one frame =
    elim (envelope_of frame.bytes) as (λ (r : Result Envelope Refused). refused_as r ≤ 1)
    [ Ok said ↦ omega arith | Err why ↦ omega arith ]

-- no more frames are refused than there are
pub refused_few : (frames : List Found) → refused_of frames ≤ length frames
refused_few frames =
    omega (
      arith,
      sum_by-le frame_refused 1 frames (λ k d lt. refused_one (slice_index_or frames k d)),
    )

-- ---- a frame more

-- the row of one frame more is held
pub listed_more : (first : Lister) (begin : Writing) (p p' : Lister) (now : Writing)
    (frames : List Found) (frame : Found) → HasListed first begin p now frames
    → HoldsRow p p' frame → HasListed first begin p' now (frames ++ frame ∷ [])
listed_more first begin p p' now frames frame h more =
    let long = length-append frames (frame ∷ []) in
    let parts = ap length h.parted ∙ length-append h.done h.waiting in
    let at : p.frames + 1 ≡ (1 + length h.done) + length h.waiting =
    omega (arith, h.frames_are, parts) in
    record {
      started = h.started;
      counts = omega (arith, h.counts, more.frames, long);
      columns_are = more.columns ∙ h.columns_are;
      input_is = more.input ∙ h.input_is;
      frames_are = omega (arith, h.frames_are, more.frames, long);
      refused_are = more.refused ∙ ap (λ n. n + frame_refused frame) h.refused_are
          ∙ sym (sum_by_push frame_refused frames frame);
      done = h.done;
      waiting = h.waiting ++ frame ∷ [];
      parted = ap (λ fs. fs ++ frame ∷ []) h.parted ∙ append_assoc h.done h.waiting (frame ∷ []);
      written = h.written;
      held = more.held
          ∙ ap (λ (t : List ℕ). t ++ row p.columns.now p.input (p.frames + 1) frame) h.held
          ∙ ap (λ cs. frames_from (row first.columns.now first.input) (1 + length h.done) h.waiting
          ++ row cs p.input (p.frames + 1) frame) h.columns_are
          ∙ ap (λ i. frames_from (row first.columns.now first.input) (1 + length h.done) h.waiting
          ++ row first.columns.now i (p.frames + 1) frame) h.input_is
          ∙ sym (frames_from-more (row first.columns.now first.input) (1 + length h.done)
          (p.frames + 1) h.waiting frame at);
      counted = more.written ∙ h.counted;
    }

-- nothing changed: the frames are listed still
pub unchanged : (first : Lister) (begin : Writing) (p p' : Lister) (now : Writing)
    (frames : List Found) → HasListed first begin p now frames → IsUnchanged p p'
    → HasListed first begin p' now frames
unchanged first begin p p' now frames h same = record {
  started = h.started;
  counts = same.keeps.frames ∙ h.counts;
  columns_are = same.keeps.columns ∙ h.columns_are;
  input_is = same.keeps.input ∙ h.input_is;
  frames_are = same.keeps.frames ∙ h.frames_are;
  refused_are = same.keeps.refused ∙ h.refused_are;
  done = h.done;
  waiting = h.waiting;
  parted = h.parted;
  written = h.written;
  held = same.held ∙ h.held;
  counted = same.written ∙ h.counted;
}

-- the rows that were written and those that are held are all rows
pub rows_parted : (first : Lister) (begin : Writing) (p : Lister) (now : Writing)
    (frames : List Found) → (h : HasListed first begin p now frames)
    → rows first.columns.now first.input frames
    ≡ rows first.columns.now first.input h.done ++ p.rows.held.items
rows_parted first begin p now frames h =
    ap (rows first.columns.now first.input) h.parted
    ∙ frames_from-append (row first.columns.now first.input) 1 h.done h.waiting
    ∙ ap (λ (t : List ℕ). rows first.columns.now first.input h.done ++ t) (sym h.held)

-- ---- what is held is written

-- all rows were written, and none is held
pub all_written : (first : Lister) (begin : Writing) (p : Lister) (mid now : Writing)
    (frames : List Found) → HasListed first begin p mid frames → WritesAll mid now p.rows.held.items
    → WritesAll begin now (rows first.columns.now first.input frames)
all_written first begin p mid now frames h all =
    subst (WritesAll begin now) (sym (rows_parted first begin p mid frames h))
    (writes_more begin mid now _ p.rows.held.items h.written all)

-- so it is if none is held
pub none_held : (first : Lister) (begin : Writing) (p : Lister) (now : Writing)
    (frames : List Found) → HasListed first begin p now frames → p.rows.held.items ≡ []
    → WritesAll begin now (rows first.columns.now first.input frames)
none_held first begin p now frames h none =
    subst (WritesAll begin now)
    (sym (rows_parted first begin p now frames h
    ∙ ap (λ (t : List ℕ). rows first.columns.now first.input h.done ++ t) none
    ∙ append-nil (rows first.columns.now first.input h.done)))
    h.written

-- how many octets were written then
pub all_counted : (first : Lister) (begin : Writing) (p : Lister) (r : HeldRows) (mid : Writing)
    (frames : List Found) → HasListed first begin p mid frames
    → r.written ≡ p.rows.written + length p.rows.held.items
    → r.written ≡ first.rows.written + length (rows first.columns.now first.input frames)
all_counted first begin p r mid frames h long =
    let parts = ap length (rows_parted first begin p mid frames h)
    ∙ length-append (rows first.columns.now first.input h.done) p.rows.held.items in
    omega (arith, h.counted, long, parts)

-- the frames are listed still
listed_written : (first : Lister) (begin : Writing) (p : Lister) (r : HeldRows) (mid now : Writing)
    (frames : List Found) (done : Unit {0}) → HasListed first begin p mid frames
    → WritesHeld p.rows r mid now (Ok done)
    → HasListed first begin (record p { rows = r }) now frames
listed_written first begin p r mid now frames done h w = record {
  started = h.started;
  counts = h.counts;
  columns_are = h.columns_are;
  input_is = h.input_is;
  frames_are = h.frames_are;
  refused_are = h.refused_are;
  done = frames;
  waiting = [];
  parted = sym (append-nil frames);
  written = all_written first begin p mid now frames h w.0;
  held = w.1;
  counted = all_counted first begin p r mid frames h w.2;
}

-- listing stopped when memory ran out
pub listing_stopped : (first : Lister) (begin : Writing) (p : Lister) (mid now : Writing)
    (frames : List Found) (fault : ToolFault) → HasListed first begin p mid frames
    → Stops p mid now fault
    → StopsListing first.columns.now first.input first.rows.written frames begin now fault
listing_stopped first begin p mid now frames faults.OutOfMemory h (inl all) = record {
  done = frames;
  rest = [];
  parted = sym (append-nil frames);
  written = all_written first begin p mid now frames h all;
}
listing_stopped first begin p mid now frames faults.OutOfMemory h (inr same) = record {
  done = h.done;
  rest = h.waiting;
  parted = h.parted;
  written = subst (λ w. WritesAll begin w (rows first.columns.now first.input h.done)) (sym same)
      h.written;
}
listing_stopped first begin p mid now frames (faults.WriteFailed written) h f =
    let front = rows first.columns.now first.input h.done in (
      length front + f.0,
      omega (arith, h.counted, f.1),
      subst (FailsAfter (length front + f.0) begin now)
          (sym (rows_parted first begin p mid frames h))
          (fails_more begin mid now front p.rows.held.items f.0 h.written f.2),
    )
listing_stopped first begin p mid now frames fault h f = absurd f

-- so it stops if what is held cannot be written
pub unwritten : (p : Lister) (r : HeldRows) (mid now : Writing) (fault : ToolFault)
    → WritesHeld p.rows r mid now (Err fault) → Stops p mid now fault
unwritten p r mid now faults.OutOfMemory w = inr w.0
unwritten p r mid now (faults.WriteFailed written) w = w
unwritten p r mid now fault w = absurd w

-- ---- a piece ends

-- what is held was written, and the frames are listed still
pub held_taken : {B : Type 0} (writing : B → Writing) (p : Lister) (r : HeldRows) (mid now : Writing)
    (result : Result (Unit {0}) ToolFault) → WritesHeld p.rows r mid now result
    → OnOk result ((first : Lister) (begin : B) (frames : List Found)
    → HasListed first (writing begin) p mid frames
    → HasListed first (writing begin) (record p { rows = r }) now frames)
held_taken writing p r mid now (Ok done) w =
    λ first begin frames h. listed_written first (writing begin) p r mid now frames done h w
held_taken writing p r mid now (Err e) w = tt

-- or the writer failed
pub held_stopped : {B : Type 0} (writing : B → Writing) (p : Lister) (r : HeldRows)
    (mid now : Writing) (result : Result (Unit {0}) ToolFault) → WritesHeld p.rows r mid now result
    → IfErr result (λ e. (first : Lister) (begin : B) (frames : List Found)
    → HasListed first (writing begin) p mid frames
    → StopsListing first.columns.now first.input first.rows.written frames (writing begin) now e)
held_stopped writing p r mid now (Ok done) w = tt
held_stopped writing p r mid now (Err e) w =
    λ first begin frames h. listing_stopped first (writing begin) p mid now frames e h
    (unwritten p r mid now e w)

-- ---- among frames

-- the rows of frames that were written are those of the first of more
rows_further : (columns : List Column) (input : ℕ) (front rest frames : List Found)
    (begin now : Writing) → frames ≡ front ++ rest → WritesRows columns input front begin now
    → WritesRows columns input frames begin now
rows_further columns input front rest frames begin now is w = record {
  done = w.done;
  rest = w.rest ++ rest;
  parted = is ∙ ap (λ fs. fs ++ rest) w.parted ∙ append_assoc w.done w.rest rest;
  written = w.written;
}

-- listing stopped among some frames: so it did among more
pub stops_further : (columns : List Column) (input before : ℕ) (front rest frames : List Found)
    (begin now : Writing) (fault : ToolFault) → frames ≡ front ++ rest
    → StopsListing columns input before front begin now fault
    → StopsListing columns input before frames begin now fault
stops_further columns input before front rest frames begin now faults.OutOfMemory is s =
    rows_further columns input front rest frames begin now is s
stops_further columns input before front rest frames begin now (faults.WriteFailed written) is s = (
  s.0,
  s.1,
  subst (FailsAfter s.0 begin now)
      (sym (ap (rows columns input) is ∙ frames_from-append (row columns input) 1 front rest))
      (fails_longer begin now (rows columns input front) _ s.0 s.2),
)
stops_further columns input before front rest frames begin now fault is s = absurd s
