-- What selecting inputs comes to at each of its ends: the contracts of `select_inputs` and `run_select`.
use Rattle.std.proofs.Common.{◌≡◌, ℕ, ◌+◌, ◌*◌, ◌^◌, ◌≤◌, Bool, true, false, inl, inr, List, [], ◌∷◌}
use Rattle.std.proofs.Common.{◌++◌, length, Ok, Err, refl, sym, ap, ◌∙◌, subst, arith, append_assoc}
use Rattle.std.proofs.Common.{length-append}
use Rattle.std.proofs.lemmas.List.{append-nil}
use Rattle.std.proofs.lemmas.List.Sums.{sum_by-append}
use Rattle.std.proofs.lemmas.Grind.{flat_map-append}
use Rattle.std.proofs.Math.ListN.{set}
use Rattle.bufr_bits.specs.Devices.{Reading, Writing}
use Rattle.bufr_frame.specs.declared.frames.Found.{Found}
use Rattle.bufr_frame.specs.Streams.{cut, sure}
use Rattle.bufr_io.specs.declared.fault.Input.{Input}
use Rattle.bufr_io.specs.declared.fault.Input.TheVariants.{Number}
use Rattle.bufr_io.specs.declared.fault.Tally.{Tally}
use Rattle.bufr_io.specs.declared.fault.ToolFault.{ToolFault}
use Rattle.bufr_io.specs.declared.fault.ToolFault.TheVariants as faults
use Rattle.bufr_io.specs.Engines.{FailsAfter, HasFailed, HasGiven, IsEndless, WritesAfter, WritesAll}
use Rattle.bufr_io.specs.Lines.{WritesLines}
use Rattle.bufr_io.specs.Numbered.{frames_from, inputs_from, inputs_to}
use Rattle.bufr_io.specs.Reached.{GivesFrames}
use Rattle.bufr_io.specs.ReachedLaws.{front_of_all, inputs_from-more, inputs_to-none}
use Rattle.bufr_io.specs.Readers.{AreFresh, AreReadAtMost}
use Rattle.bufr_io.specs.ReaderLaws.{Through, Reached, at_most_fresh, at_most_set, none_read}
use Rattle.bufr_io.specs.ReaderLaws.{read_before, stops_here, streams_read, through_first, through_more}
use Rattle.bufr_io.specs.WritingLaws.{fails_longer, writes_more, writes_none}
use Rattle.bufr_select_rows.specs.Rows.{header}
use Rattle.bufr_io.specs.HeldTexts.{HasPut, PutsOrStops}
use Rattle.bufr_select_engine.specs.Tells.{HasTold}
use Rattle.bufr_select_engine.specs.Selected.{Selection, counted, frame_refusal, frame_refused}
use Rattle.bufr_select_engine.specs.Selected.{frame_rows, frames_of, refusals, refusals_to, refused_of}
use Rattle.bufr_select_engine.specs.Selected.{selected, selected_to}
use Rattle.bufr_select_engine.specs.Selectors.{AreHeard, HasSelectedFrames, HasSelectedInputs, IsReady}
use Rattle.bufr_select_engine.specs.Selectors.{SelectsInput, SelectsInputs, TellsFirst, refusals_of}
use Rattle.bufr_select_engine.specs.Selectors.{rows_of, selection_of}
use Rattle.bufr_select_engine.specs.Selects.{EndsSelecting, Selects, Takes, TakesFirst, WritesFront}
use Rattle.bufr_select_engine.specs.Selects.{Writings}
use Rattle.bufr_io.specs.declared.held_rows.HeldRows.{HeldRows}
use Rattle.bufr_select_engine.specs.declared.frame_selector.FrameSelector.{FrameSelector}
use Rattle.bufr_io.specs.HeldLaws.{rows_failed, stop_unwritten}
use Rattle.bufr_select_engine.proofs.SelectedFacts.{refused_few}

-- ---- writers

-- before any text
pub put_nothing : (r : HeldRows) (w : Writing) → r.held.items ≡ [] → r.written ≡ 0
    → w.failed ≡ false → HasPut w [] r w
put_nothing r w none zero works = record {
  front = [];
  parted = sym none;
  front_whole = inl refl;
  held_whole = inl none;
  taken = writes_none w works;
  counted = zero;
}

-- what was told, as what a writer took
told_taken : (start : Writing) (text : List ℕ) (unheard : Bool) (now : Writing)
    → HasTold start text unheard now → Takes start now text
told_taken start text false now h = inl h
told_taken start text true now h = inr h

-- what was put is written when no row waits
put_written : (start : Writing) (text : List ℕ) (r : HeldRows) (now : Writing)
    → HasPut start text r now → r.held.items ≡ [] → WritesAll start now text
put_written start text r now h none =
    subst (WritesAll start now)
    (sym (h.parted ∙ ap (λ (t : List ℕ). h.front ++ t) none ∙ append-nil h.front)) h.taken

-- ---- the header line

-- the header line was not written
pub header_fails : (s : Selection) (reads : ℕ) (readers : List Reading) (r r' : HeldRows)
    (w w' : Writings) (e : ToolFault) → r.held.items ≡ [] → r.written ≡ 0
    → w.rows.failed ≡ false → w.refusals.failed ≡ false → w'.refusals ≡ w.refusals
    → PutsOrStops (header s.columns) r w.rows r' w'.rows (Err e)
    → Selects s reads readers readers w w' (Err e)
header_fails s reads readers r r' w w' faults.OutOfMemory none zero works heard same stops =
    inr (
      [],
      [],
      inl (none_read readers, refl),
      subst (WritesLines w.rows w'.rows) (sym (append-nil (header s.columns)))
          (stop_unwritten w.rows (header s.columns) r' w'.rows
          (stops.1 w.rows [] (put_nothing r w.rows none zero works))),
      (
        [],
        [],
        refl,
        inl (subst (λ (x : Writing). WritesAll w.refusals x []) (sym same)
            (writes_none w.refusals heard)),
      ),
    )
header_fails s reads readers r r' w w' (faults.WriteFailed written) none zero works heard same stops = (
  [],
  [],
  inl (none_read readers, refl),
  subst (FailsAfter written w.rows w'.rows) (sym (append-nil (header s.columns)))
      (stops.1 w.rows [] (put_nothing r w.rows none zero works)),
  (
    [],
    [],
    refl,
    inl (subst (λ (x : Writing). WritesAll w.refusals x []) (sym same)
        (writes_none w.refusals heard)),
  ),
)
header_fails s reads readers r r' w w' e none zero works heard same stops = absurd stops.0

-- ---- input by input

-- a selector that begins the next input
abbrev pub begun : FrameSelector → ℕ → FrameSelector
begun p i = record p { input = i + 1; frames = 0; refused = 0 }

-- it holds what it held, is as ready as it was, and hears the writers as it did
pub begun_held : (p q : FrameSelector) (i : ℕ) → q ≡ begun p i → p.rows.held.items ≡ []
    → q.rows.held.items ≡ []
begun_held p q i is none = ap (λ (x : FrameSelector). x.rows.held.items) is ∙ none

pub begun_ready : (p q : FrameSelector) (i : ℕ) → q ≡ begun p i → IsReady p → IsReady q
begun_ready p q i is ready =
    subst IsReady (sym is) (record { cells = ready.cells; covers = ready.covers })

pub begun_heard : (p q : FrameSelector) (i : ℕ) (w : Writings) → q ≡ begun p i → AreHeard p w
    → AreHeard q w
begun_heard p q i w is heard = record {
  works = heard.works;
  heard = heard.heard ∙ sym (ap (λ (x : FrameSelector). x.unheard) is);
}

-- the first inputs were read out, their rows and refusals were written, and their frames are counted
pub record SelectedThrough (s : Selection) (reads : ℕ) (olds news : List Reading)
    (begin now : Writings) (p : FrameSelector) (tally : Tally) (i : ℕ) : Type 0 where
  pub streams : List (List ℕ)
  pub through : Through olds news streams i
  pub bounded : AreReadAtMost reads news
  pub selected : HasSelectedInputs s streams p begin now
  pub tally_is : tally ≡ counted s streams
  pub few : tally.frames ≤ 2 ^ 48 * i

-- before the first input
pub through_none : (reads : ℕ) (readers : List Reading) (p p' : FrameSelector) (w w' : Writings)
    (done : Unit {0}) → AreFresh readers → p.rows.held.items ≡ [] → p.rows.written ≡ 0
    → p.unheard ≡ false → IsReady p → w.rows.failed ≡ false → w.refusals.failed ≡ false
    → w'.rows.failed ≡ false → p'.rows.held.items ≡ [] → p' ≡ record p { rows = p'.rows }
    → w'.refusals ≡ w.refusals
    → PutsOrStops (header p.columns.now) p.rows w.rows p'.rows w'.rows (Ok done)
    → SelectedThrough (selection_of p) reads readers readers w w' p'
    (record { frames = 0; refused = 0; skipped = 0; reports = 0 }) 0
through_none reads readers p p' w w' done fresh none zero unheard ready works heard works' none' same
    refusals_same puts =
    record {
      streams = [];
      through = through_first readers;
      bounded = at_most_fresh reads readers fresh;
      selected = record {
        selection = ap selection_of same;
        ready = subst IsReady (sym same) (record { cells = ready.cells; covers = ready.covers });
        heard = record {
          works = works';
          heard = ap (λ (x : Writing). x.failed) refusals_same ∙ heard ∙ sym unheard
              ∙ sym (ap (λ (x : FrameSelector). x.unheard) same);
        };
        rows = subst (λ t. HasPut w.rows t p'.rows w'.rows) (sym (append-nil (header p.columns.now)))
            (puts w.rows [] (put_nothing p.rows w.rows none zero works));
        told = subst (λ u. HasTold w.refusals [] u w'.refusals)
            (sym (ap (λ (x : FrameSelector). x.unheard) same ∙ unheard))
            (subst (λ (x : Writing). WritesAll w.refusals x []) (sym refusals_same)
            (writes_none w.refusals heard));
        held = none';
      };
      tally_is = refl;
      few = omega arith;
    }

-- the refused frames are frames
pub refused_at_most : (s : Selection) (reads : ℕ) (olds news : List Reading) (begin now : Writings)
    (p : FrameSelector) (tally : Tally) (i : ℕ)
    → SelectedThrough s reads olds news begin now p tally i → tally.refused ≤ tally.frames
refused_at_most s reads olds news begin now p tally i t =
    let frames = ap (λ (x : Tally). x.frames) t.tally_is in
    let refused = ap (λ (x : Tally). x.refused) t.tally_is in
    omega (arith, frames, refused, refused_few s (frames_of t.streams))

-- the frames of streams and of one more
frames_more : (streams : List (List ℕ)) (stream : List ℕ)
    → frames_of (streams ++ stream ∷ []) ≡ frames_of streams ++ cut stream
frames_more streams stream =
    flat_map-append cut streams (stream ∷ [])
    ∙ ap (λ fs. frames_of streams ++ fs) (append-nil (cut stream))

-- what is counted of streams and of one more
counted_more : (s : Selection) (streams : List (List ℕ)) (stream : List ℕ) (tally : Tally)
    (frames refused : ℕ) → tally ≡ counted s streams
    → frames ≡ tally.frames + length (cut stream)
    → refused ≡ tally.refused + refused_of s (cut stream)
    → record { frames = frames; refused = refused; skipped = tally.skipped; reports = tally.reports }
    ≡ counted s (streams ++ stream ∷ [])
counted_more s streams stream tally frames refused is frames_are refused_are =
    let all = frames_more streams stream in
    let long : frames ≡ length (frames_of (streams ++ stream ∷ [])) =
    omega (
      arith,
      frames_are,
      ap (λ (x : Tally). x.frames) is,
      ap length all,
      length-append (frames_of streams) (cut stream),
    ) in
    let many : refused ≡ refused_of s (frames_of (streams ++ stream ∷ [])) =
    omega (
      arith,
      refused_are,
      ap (λ (x : Tally). x.refused) is,
      ap (refused_of s) all,
      sum_by-append (frame_refused s) (frames_of streams) (cut stream),
    ) in
    let skipped = ap (λ (x : Tally). x.skipped) is in
    let reports = ap (λ (x : Tally). x.reports) is in
    rw (long, many, skipped, reports) refl

-- ---- the next input

-- the rows of the inputs before it, and then of its frames
rows_here : (s : Selection) (streams : List (List ℕ)) (q : FrameSelector) (frames : List Found)
    → selection_of q ≡ s → q.input ≡ length streams + 1
    → selected s streams ++ rows_of q frames ≡ selected_to s streams frames
rows_here s streams q frames is input =
    ap (λ (t : Selection). selected s streams ++ frames_from (frame_rows t q.input) 1 frames) is
    ∙ ap (λ n. selected s streams ++ frames_from (frame_rows s n) 1 frames) input
    ∙ append_assoc (header s.columns) (inputs_from (frame_rows s) 1 streams) _

refusals_here : (s : Selection) (streams : List (List ℕ)) (q : FrameSelector) (frames : List Found)
    → selection_of q ≡ s → q.input ≡ length streams + 1
    → refusals s streams ++ refusals_of q frames ≡ refusals_to s streams frames
refusals_here s streams q frames is input =
    ap (λ (t : Selection). refusals s streams ++ frames_from (frame_refusal t q.input) 1 frames) is
    ∙ ap (λ n. refusals s streams ++ frames_from (frame_refusal s n) 1 frames) input

-- the refusals of the first of its frames were told after those of the inputs before it
told_first : (s : Selection) (streams : List (List ℕ)) (q p : FrameSelector) (begin mid now : Writings)
    (frames : List Found) → selection_of q ≡ s → q.input ≡ length streams + 1
    → HasTold begin.refusals (refusals s streams) q.unheard mid.refusals
    → TellsFirst q mid p now frames → TakesFirst s streams frames begin.refusals now.refusals
told_first s streams q p begin mid now frames is input before t = (
  t.done,
  t.rest,
  t.parted,
  subst (Takes begin.refusals now.refusals) (refusals_here s streams q t.done is input)
      (told_taken begin.refusals _ p.unheard now.refusals
      (t.told begin.refusals (refusals s streams) before)),
)

-- what is selected of one input more
selected_more : (s : Selection) (streams : List (List ℕ)) (stream : List ℕ)
    → selected_to s streams (cut stream) ≡ selected s (streams ++ stream ∷ [])
selected_more s streams stream =
    ap (λ (t : List ℕ). header s.columns ++ t) (sym (inputs_from-more (frame_rows s) streams stream))

-- the numbers of an input that begins
begun_is : (s : Selection) (reads : ℕ) (olds news : List Reading) (begin mid : Writings)
    (p q : FrameSelector) (tally : Tally) (i : ℕ)
    → (t : SelectedThrough s reads olds news begin mid p tally i) → q ≡ begun p i
    → (selection_of q ≡ s) × (q.input ≡ length t.streams + 1) × (q.rows ≡ p.rows)
    × (q.unheard ≡ p.unheard)
begun_is s reads olds news begin mid p q tally i t is = (
  ap selection_of is ∙ t.selected.selection,
  ap (λ (x : FrameSelector). x.input) is
      ∙ ap (λ n. n + 1) (sym (streams_read olds news t.streams i t.through)),
  ap (λ (x : FrameSelector). x.rows) is,
  ap (λ (x : FrameSelector). x.unheard) is,
)

-- what was put and told before it
put_before : (s : Selection) (reads : ℕ) (olds news : List Reading) (begin mid : Writings)
    (p q : FrameSelector) (tally : Tally) (i : ℕ)
    → (t : SelectedThrough s reads olds news begin mid p tally i) → q ≡ begun p i
    → HasPut begin.rows (selected s t.streams) q.rows mid.rows
put_before s reads olds news begin mid p q tally i t is =
    subst (λ (r : HeldRows). HasPut begin.rows (selected s t.streams) r mid.rows)
    (sym (ap (λ (x : FrameSelector). x.rows) is)) t.selected.rows

told_before : (s : Selection) (reads : ℕ) (olds news : List Reading) (begin mid : Writings)
    (p q : FrameSelector) (tally : Tally) (i : ℕ)
    → (t : SelectedThrough s reads olds news begin mid p tally i) → q ≡ begun p i
    → HasTold begin.refusals (refusals s t.streams) q.unheard mid.refusals
told_before s reads olds news begin mid p q tally i t is =
    subst (λ u. HasTold begin.refusals (refusals s t.streams) u mid.refusals)
    (sym (ap (λ (x : FrameSelector). x.unheard) is)) t.selected.told

-- one input more was read out
pub through_next : (s : Selection) (reads : ℕ) (olds news news' : List Reading)
    (begin mid now : Writings) (p q p' : FrameSelector) (tally : Tally) (i : ℕ) (r r' : Reading)
    (done : Unit {0}) → (t : SelectedThrough s reads olds news begin mid p tally i)
    → Reached olds news t.streams i r → news' ≡ set news i r' → r'.reads ≤ reads
    → q ≡ begun p i → SelectsInput reads q p' r r' mid now (Ok done)
    → SelectedThrough s reads olds news' begin now p'
    (record {
      frames = tally.frames + p'.frames;
      refused = tally.refused + p'.refused;
      skipped = tally.skipped;
      reports = tally.reports;
    })
    (i + 1)
through_next s reads olds news news' begin mid now p q p' tally i r r' done t at is bounded begins
    selects =
    let numbers = begun_is s reads olds news begin mid p q tally i t begins in
    let stream = selects.1 in
    let all = selects.3 in
    let rows : selected s t.streams ++ rows_of q (cut stream)
    ≡ selected s (t.streams ++ stream ∷ []) =
    rows_here s t.streams q (cut stream) numbers.0 numbers.1 ∙ selected_more s t.streams stream in
    let told : refusals s t.streams ++ refusals_of q (cut stream)
    ≡ refusals s (t.streams ++ stream ∷ []) =
    refusals_here s t.streams q (cut stream) numbers.0 numbers.1
    ∙ sym (inputs_from-more (frame_refusal s) t.streams stream) in
    record {
      streams = t.streams ++ stream ∷ [];
      through = through_more olds news news' t.streams stream i r r' at is selects.0 selects.2;
      bounded = subst (AreReadAtMost reads) (sym is) (at_most_set reads news i r' t.bounded bounded);
      selected = record {
        selection = all.keeps.selection ∙ numbers.0;
        ready = all.ready;
        heard = all.heard;
        rows = subst (λ x. HasPut begin.rows x p'.rows now.rows) rows
            (all.selected.rows begin.rows (selected s t.streams)
            (put_before s reads olds news begin mid p q tally i t begins));
        told = subst (λ x. HasTold begin.refusals x p'.unheard now.refusals) told
            (all.selected.told begin.refusals (refusals s t.streams)
            (told_before s reads olds news begin mid p q tally i t begins));
        held = all.selected.held;
      };
      tally_is =
          counted_more s t.streams stream tally (tally.frames + p'.frames)
          (tally.refused + p'.refused) t.tally_is (ap (λ n. tally.frames + n) all.frames)
          (ap (λ n. tally.refused + n)
          (all.refused ∙ ap (λ x. refused_of x (cut stream)) numbers.0));
      few = omega (arith, t.few, all.frames, all.few);
    }

-- each reader gave at most n reads, the last one too
pub bounded_next : (reads : ℕ) (news news' : List Reading) (i : ℕ) (r' : Reading)
    → AreReadAtMost reads news → news' ≡ set news i r' → r'.reads ≤ reads
    → AreReadAtMost reads news'
bounded_next reads news news' i r' all is here =
    subst (AreReadAtMost reads) (sym is) (at_most_set reads news i r' all here)

-- ---- selecting ended at an input

-- it could not be read on
reading_ends : (s : Selection) (reads : ℕ) (Ends : Reading → Type 0)
    (olds news news' : List Reading) (begin mid now : Writings) (p q p' : FrameSelector) (tally : Tally)
    (i : ℕ) (r r' : Reading) (name : Input) (read : List ℕ)
    → (t : SelectedThrough s reads olds news begin mid p tally i)
    → Reached olds news t.streams i r → news' ≡ set news i r' → q ≡ begun p i
    → name ≡ Number q.input → Ends r' → HasGiven r r' read
    → HasSelectedFrames q p' (sure read) mid now
    → EndsSelecting s Ends name olds news' begin now
reading_ends s reads Ends olds news news' begin mid now p q p' tally i r r' name read t at is begins
    name_is ends given frames =
    let numbers = begun_is s reads olds news begin mid p q tally i t begins in
    let put = frames.rows begin.rows (selected s t.streams)
    (put_before s reads olds news begin mid p q tally i t begins) in
    let told = frames.told begin.refusals (refusals s t.streams)
    (told_before s reads olds news begin mid p q tally i t begins) in
    subst (λ x. EndsSelecting s Ends x olds news' begin now) (sym name_is) (
      t.streams,
      read,
      numbers.1,
      stops_here (λ x x'. Ends x' × HasGiven x x' read) olds news news' t.streams i r r' at is
          (ends, given),
      subst (WritesAll begin.rows now.rows)
          (rows_here s t.streams q (sure read) numbers.0 numbers.1)
          (put_written begin.rows _ p'.rows now.rows put frames.held),
      subst (Takes begin.refusals now.refusals)
          (refusals_here s t.streams q (sure read) numbers.0 numbers.1)
          (told_taken begin.refusals _ p'.unheard now.refusals told),
    )

-- selecting ended at an input, and so it did of all
pub through_stops : (s : Selection) (reads : ℕ) (olds news news' : List Reading)
    (begin mid now : Writings) (p q p' : FrameSelector) (tally : Tally) (i : ℕ) (r r' : Reading)
    (e : ToolFault) → (t : SelectedThrough s reads olds news begin mid p tally i)
    → Reached olds news t.streams i r → news' ≡ set news i r'
    → q ≡ begun p i → SelectsInput reads q p' r r' mid now (Err e)
    → Selects s reads olds news' begin now (Err e)
through_stops s reads olds news news' begin mid now p q p' tally i r r' (faults.ReadFailed name) t at
    is begins x =
    reading_ends s reads HasFailed olds news news' begin mid now p q p' tally i r r' name x.2 t at is
    begins x.0 x.1 x.3 x.4
through_stops s reads olds news news' begin mid now p q p' tally i r r' (faults.EndlessInput name) t
    at is begins x =
    reading_ends s reads (IsEndless reads) olds news news' begin mid now p q p' tally i r r' name x.2
    t at is begins x.0 x.1 x.3 x.4
through_stops s reads olds news news' begin mid now p q p' tally i r r' (faults.WriteFailed written) t
    at is begins x =
    let numbers = begun_is s reads olds news begin mid p q tally i t begins in
    let put = x.2.rows begin.rows (selected s t.streams)
    (put_before s reads olds news begin mid p q tally i t begins) in (
      t.streams,
      x.0,
      inr (stops_here (λ y y'. GivesFrames y y' x.0) olds news news' t.streams i r r' at is x.1),
      subst (FailsAfter written begin.rows now.rows)
          (rows_here s t.streams q x.0 numbers.0 numbers.1) put,
      told_first s t.streams q p' begin mid now x.0 numbers.0 numbers.1
          (told_before s reads olds news begin mid p q tally i t begins) x.2.told,
    )
through_stops s reads olds news news' begin mid now p q p' tally i r r' faults.OutOfMemory t at is
    begins x =
    let numbers = begun_is s reads olds news begin mid p q tally i t begins in
    let put = x.2.rows begin.rows (selected s t.streams)
    (put_before s reads olds news begin mid p q tally i t begins) in
    inr (
      t.streams,
      x.0,
      inr (stops_here (λ y y'. GivesFrames y y' x.0) olds news news' t.streams i r r' at is x.1),
      subst (WritesLines begin.rows now.rows)
          (rows_here s t.streams q x.0 numbers.0 numbers.1) put,
      told_first s t.streams q p' begin mid now x.0 numbers.0 numbers.1
          (told_before s reads olds news begin mid p q tally i t begins) x.2.told,
    )
through_stops s reads olds news news' begin mid now p q p' tally i r r' e t at is begins x =
    absurd x.2.stops

-- ---- the end

-- all was written
pub ends_written : (s : Selection) (reads : ℕ) (olds news : List Reading) (begin mid now : Writings)
    (p : FrameSelector) (tally : Tally) (done : Unit {0})
    → SelectsInputs s reads olds news begin mid p (Ok tally)
    → WritesAfter p.rows.written [] mid.rows now.rows (Ok done) → now.refusals ≡ mid.refusals
    → Selects s reads olds news begin now (Ok tally)
ends_written s reads olds news begin mid now p tally done x w same =
    let all = x.2 in (
      x.0,
      x.1,
      subst (WritesAll begin.rows now.rows) (append-nil (selected s x.0))
          (writes_twice begin.rows mid.rows now.rows (selected s x.0)
          (put_written begin.rows (selected s x.0) p.rows mid.rows all.rows all.held) w),
      told_taken begin.refusals (refusals s x.0) p.unheard now.refusals
          (subst (HasTold begin.refusals (refusals s x.0) p.unheard) (sym same) all.told),
      x.3,
    )
  where
    writes_twice : (a b c : Writing) (text : List ℕ) → WritesAll a b text → WritesAll b c []
        → WritesAll a c (text ++ [])
    writes_twice a b c text one two = writes_more a b c text [] one two

-- the writer fails when what was written is handed on
pub ends_unwritten : (s : Selection) (reads : ℕ) (olds news : List Reading)
    (begin mid now : Writings) (p : FrameSelector) (tally : Tally) (e : ToolFault)
    → SelectsInputs s reads olds news begin mid p (Ok tally)
    → WritesAfter p.rows.written [] mid.rows now.rows (Err e) → now.refusals ≡ mid.refusals
    → Selects s reads olds news begin now (Err e)
ends_unwritten s reads olds news begin mid now p tally (faults.WriteFailed written) x w same =
    let all = x.2 in (
      x.0,
      [],
      inl (read_before olds news x.0 x.1, refl),
      subst (FailsAfter written begin.rows now.rows)
          (ap (λ (t : List ℕ). header s.columns ++ t) (sym (inputs_to-none (frame_rows s) x.0)))
          (rows_failed begin.rows (selected s x.0) p.rows mid.rows now.rows written all.rows
          (subst (λ (t : List ℕ). WritesAfter p.rows.written t mid.rows now.rows
          (Err (faults.WriteFailed written))) (sym all.held) w)),
      (
        [],
        [],
        refl,
        subst (Takes begin.refusals now.refusals) (sym (inputs_to-none (frame_refusal s) x.0))
            (told_taken begin.refusals (refusals s x.0) p.unheard now.refusals
            (subst (HasTold begin.refusals (refusals s x.0) p.unheard) (sym same) all.told)),
      ),
    )
ends_unwritten s reads olds news begin mid now p tally e x w same = absurd w

-- the writer failed after a front of what was selected, which is one of all that is selected
pub writes_front : (s : Selection) (reads : ℕ) (olds news : List Reading) (begin now : Writings)
    (e : ToolFault) → Selects s reads olds news begin now (Err e)
    → WritesFront s olds begin.rows now.rows e
writes_front s reads olds news begin now (faults.WriteFailed written) x = λ all told.
    let h = front_of_all (frame_rows s) olds news x.0 all x.1 x.2 told in
    subst (FailsAfter written begin.rows now.rows)
    (append_assoc (header s.columns) (inputs_to (frame_rows s) x.0 x.1) h.rest
    ∙ ap (λ (t : List ℕ). header s.columns ++ t) (sym h.parted))
    (fails_longer begin.rows now.rows (selected_to s x.0 x.1) h.rest written x.3)
writes_front s reads olds news begin now e x = tt
