-- What listing inputs comes to at each of its ends: the contracts of `list_inputs` and `run_ls`.
use Rattle.std.proofs.Common.{◌≡◌, ℕ, ◌+◌, ◌*◌, ◌^◌, ◌≤◌, inl, inr, List, [], ◌∷◌, ◌++◌}
use Rattle.std.proofs.Common.{length, Ok, Err, refl, sym, ap, ◌∙◌, subst, arith}
use Rattle.std.proofs.Common.{length-append}
use Rattle.std.proofs.lemmas.List.{append-nil}
use Rattle.std.proofs.lemmas.List.Sums.{sum_by-append}
use Rattle.std.proofs.lemmas.Grind.{flat_map-append}
use Rattle.std.proofs.Math.ListN.{set}
use Rattle.bufr_bits.specs.Devices.{Reading, Writing}
use Rattle.bufr_frame.specs.declared.frames.Found.{Found}
use Rattle.bufr_frame.specs.Streams.{cut, sure}
use Rattle.bufr_io.specs.declared.fault.Input.{Input}
use Rattle.bufr_io.specs.declared.fault.Input.TheVariants.{Number}
use Rattle.bufr_io.specs.declared.fault.Tally.{Tally}
use Rattle.bufr_io.specs.declared.fault.ToolFault.{ToolFault}
use Rattle.bufr_io.specs.declared.fault.ToolFault.TheVariants as faults
use Rattle.bufr_io.specs.Engines.{FailsAfter, HasFailed, HasGiven, IsEndless}
use Rattle.bufr_io.specs.Engines.{WritesAfter, WritesAll}
use Rattle.bufr_io.specs.WritingLaws.{fails_more, writes_more}
use Rattle.bufr_io.specs.Reached.{GivesFrames}
use Rattle.bufr_ls_engine.specs.Lists.{EndsListing, Lists}
use Rattle.bufr_ls_engine.specs.Listers.{HasListedInputs, ListsInput, ListsInputs}
use Rattle.bufr_ls_engine.specs.Listers.{WritesHeader}
use Rattle.bufr_io.specs.Readers.{AreFresh, AreReadAtMost, AreReadTo}
use Rattle.bufr_ls_engine.specs.Rows.{counted, frames_of, frame_refused, header, listed_heads}
use Rattle.bufr_ls_engine.specs.Rows.{listed_to, refused_of, rows}
use Rattle.bufr_ls_engine.specs.declared.column.Column.{Column}
use Rattle.bufr_ls_engine.specs.declared.lister.Lister.{Lister}
use Rattle.bufr_ls_engine.proofs.ListingFacts.{refused_few}
use Rattle.bufr_io.specs.ReaderLaws.{Through, Reached, at_most_fresh, at_most_set}
use Rattle.bufr_io.specs.ReaderLaws.{none_read, read_before, stops_here, streams_read}
use Rattle.bufr_io.specs.ReaderLaws.{through_first, through_more}
use Rattle.bufr_ls_engine.proofs.RowFacts.{listed_heads-more, listed_none, listed_on, listed_to-none}

-- ---- the header line

-- the header line was not written
pub header_fails : (columns : List Column) (reads : ℕ) (readers : List Reading) (p p' : Lister)
    (begin now : Writing) (e : ToolFault) → p.columns.now ≡ columns → p.rows.written ≡ 0
    → WritesHeader p p' begin now (Err e)
    → Lists columns reads readers readers begin now (Err e)
header_fails columns reads readers p p' begin now faults.OutOfMemory is none w = inl w
header_fails columns reads readers p p' begin now (faults.WriteFailed written) is none w =
    let at : w.0 ≡ written = omega (arith, w.1, none) in
    let text : header p.columns.now ≡ listed_to columns [] [] =
    ap header is ∙ sym (listed_none columns) ∙ sym (listed_to-none columns []) in (
      [],
      [],
      inl (none_read readers, refl),
      subst (λ n. FailsAfter n begin now (listed_to columns [] [])) at
          (subst (FailsAfter w.0 begin now) text w.2),
    )
header_fails columns reads readers p p' begin now e is none w = absurd w

-- ---- input by input

-- a lister that begins the next input
abbrev pub begun : Lister → ℕ → Lister
begun p i = record p { input = i + 1; frames = 0; refused = 0 }

-- its columns
begun_columns : (p q : Lister) (i : ℕ) → q ≡ begun p i → q.columns.now ≡ p.columns.now
begun_columns p q i is = ap (λ (x : Lister). x.columns.now) is

-- the number of its input
begun_input : (p q : Lister) (i : ℕ) → q ≡ begun p i → q.input ≡ i + 1
begun_input p q i is = ap (λ (x : Lister). x.input) is

-- how many octets it has written
begun_written : (p q : Lister) (i : ℕ) → q ≡ begun p i → q.rows.written ≡ p.rows.written
begun_written p q i is = ap (λ (x : Lister). x.rows.written) is

-- the first inputs were read out, their rows were written, and their frames are counted
pub record ListedThrough (columns : List Column) (reads : ℕ) (olds news : List Reading)
    (begin now : Writing) (p : Lister) (tally : Tally) (i : ℕ) : Type 0 where
  pub streams : List (List ℕ)
  pub through : Through olds news streams i
  pub bounded : AreReadAtMost reads news
  pub listed : HasListedInputs columns streams p begin now
  pub tally_is : tally ≡ counted streams
  pub few : tally.frames ≤ 2 ^ 48 * i

-- before the first input
pub through_none : (columns : List Column) (reads : ℕ) (readers : List Reading) (p p' : Lister)
    (begin now : Writing) (done : Unit {0}) → AreFresh readers → p.columns.now ≡ columns
    → p.rows.written ≡ 0 → p'.columns.now ≡ p.columns.now → WritesHeader p p' begin now (Ok done)
    → ListedThrough columns reads readers readers begin now p'
    (record { frames = 0; refused = 0; skipped = 0; reports = 0 }) 0
through_none columns reads readers p p' begin now done fresh is none keeps w =
    let text : header p.columns.now ≡ listed_heads columns [] =
    ap header is ∙ sym (listed_none columns) in
    record {
      streams = [];
      through = through_first readers;
      bounded = at_most_fresh reads readers fresh;
      listed = record {
        columns_are = keeps ∙ is;
        written = subst (WritesAll begin now) text w.0;
        counted = omega (arith, w.2, none, ap length text);
        held = w.1;
      };
      tally_is = refl;
      few = omega arith;
    }

-- the refused frames are frames
pub refused_at_most : (columns : List Column) (reads : ℕ) (olds news : List Reading)
    (begin now : Writing) (p : Lister) (tally : Tally) (i : ℕ)
    → ListedThrough columns reads olds news begin now p tally i → tally.refused ≤ tally.frames
refused_at_most columns reads olds news begin now p tally i t =
    let frames = ap (λ (x : Tally). x.frames) t.tally_is in
    let refused = ap (λ (x : Tally). x.refused) t.tally_is in
    omega (arith, frames, refused, refused_few (frames_of t.streams))

-- the frames of streams and of one more
frames_more : (streams : List (List ℕ)) (stream : List ℕ)
    → frames_of (streams ++ stream ∷ []) ≡ frames_of streams ++ cut stream
frames_more streams stream =
    flat_map-append cut streams (stream ∷ [])
    ∙ ap (λ fs. frames_of streams ++ fs) (append-nil (cut stream))

-- what is counted of streams and of one more
counted_more : (streams : List (List ℕ)) (stream : List ℕ) (tally : Tally) (frames refused : ℕ)
    → tally ≡ counted streams → frames ≡ tally.frames + length (cut stream)
    → refused ≡ tally.refused + refused_of (cut stream)
    → record { frames = frames; refused = refused; skipped = tally.skipped; reports = tally.reports }
    ≡ counted (streams ++ stream ∷ [])
counted_more streams stream tally frames refused is frames_are refused_are =
    let all = frames_more streams stream in
    let long : frames ≡ length (frames_of (streams ++ stream ∷ [])) =
    omega (
      arith,
      frames_are,
      ap (λ (x : Tally). x.frames) is,
      ap length all,
      length-append (frames_of streams) (cut stream),
    ) in
    let many : refused ≡ refused_of (frames_of (streams ++ stream ∷ [])) =
    omega (
      arith,
      refused_are,
      ap (λ (x : Tally). x.refused) is,
      ap refused_of all,
      sum_by-append frame_refused (frames_of streams) (cut stream),
    ) in
    let skipped = ap (λ (x : Tally). x.skipped) is in
    let reports = ap (λ (x : Tally). x.reports) is in
    rw (long, many, skipped, reports) refl

-- one input more was read out
pub through_next : (columns : List Column) (reads : ℕ) (olds news news' : List Reading)
    (begin mid now : Writing) (p q p' : Lister) (tally : Tally) (i : ℕ) (r r' : Reading)
    (done : Unit {0}) → (t : ListedThrough columns reads olds news begin mid p tally i)
    → Reached olds news t.streams i r → news' ≡ set news i r' → r'.reads ≤ reads
    → q ≡ begun p i → ListsInput reads q p' r r' mid now (Ok done)
    → ListedThrough columns reads olds news' begin now p'
    (record {
      frames = tally.frames + p'.frames;
      refused = tally.refused + p'.refused;
      skipped = tally.skipped;
      reports = tally.reports;
    })
    (i + 1)
through_next columns reads olds news news' begin mid now p q p' tally i r r' done t at is bounded
    begun_is lists =
    let columns_are = begun_columns p q i begun_is in
    let input_is = begun_input p q i begun_is in
    let written_is = begun_written p q i begun_is in
    let stream = lists.1 in
    let all = lists.3 in
    let many = streams_read olds news t.streams i t.through in
    let here : rows q.columns.now q.input (cut stream)
    ≡ rows columns (length t.streams + 1) (cut stream) =
    ap (λ cs. rows cs q.input (cut stream)) (columns_are ∙ t.listed.columns_are)
    ∙ ap (λ n. rows columns n (cut stream)) (input_is ∙ ap (λ n. n + 1) (sym many)) in
    let text : listed_heads columns t.streams ++ rows q.columns.now q.input (cut stream)
    ≡ listed_heads columns (t.streams ++ stream ∷ []) =
    ap (λ (x : List ℕ). listed_heads columns t.streams ++ x) here
    ∙ listed_on columns t.streams (cut stream)
    ∙ sym (listed_heads-more columns t.streams stream) in
    record {
      streams = t.streams ++ stream ∷ [];
      through = through_more olds news news' t.streams stream i r r' at is lists.0 lists.2;
      bounded = subst (AreReadAtMost reads) (sym is) (at_most_set reads news i r' t.bounded bounded);
      listed = record {
        columns_are = all.columns ∙ columns_are ∙ t.listed.columns_are;
        written = subst (WritesAll begin now) text
            (writes_more begin mid now _ _ t.listed.written all.written);
        counted =
            omega (
              arith,
              all.counted,
              written_is,
              t.listed.counted,
              ap length text,
              length-append (listed_heads columns t.streams)
                  (rows q.columns.now q.input (cut stream)),
            );
        held = all.held;
      };
      tally_is =
          counted_more t.streams stream tally (tally.frames + p'.frames)
          (tally.refused + p'.refused) t.tally_is (ap (λ n. tally.frames + n) all.frames)
          (ap (λ n. tally.refused + n) all.refused);
      few = omega (arith, t.few, all.frames, all.few);
    }

-- each reader gave at most n reads, the last one too
pub bounded_next : (reads : ℕ) (news news' : List Reading) (i : ℕ) (r' : Reading)
    → AreReadAtMost reads news → news' ≡ set news i r' → r'.reads ≤ reads
    → AreReadAtMost reads news'
bounded_next reads news news' i r' all is here =
    subst (AreReadAtMost reads) (sym is) (at_most_set reads news i r' all here)

-- ---- listing ended at an input

-- the rows of the inputs before it, and then these
listed_here : (columns : List Column) (streams : List (List ℕ)) (q : Lister) (frames : List Found)
    → q.columns.now ≡ columns → q.input ≡ length streams + 1
    → listed_heads columns streams ++ rows q.columns.now q.input frames
    ≡ listed_to columns streams frames
listed_here columns streams q frames columns_are input_is =
    ap (λ (x : List ℕ). listed_heads columns streams ++ x)
    (ap (λ cs. rows cs q.input frames) columns_are ∙ ap (λ n. rows columns n frames) input_is)
    ∙ listed_on columns streams frames

-- it could not be read on
reading_ends : (columns : List Column) (Ends : Reading → Type 0) (olds news' : List Reading)
    (begin mid now : Writing) (streams : List (List ℕ)) (q : Lister) (name : Input)
    (read : List ℕ) → q.columns.now ≡ columns → q.input ≡ length streams + 1
    → name ≡ Number q.input
    → AreReadTo olds news' streams (λ r r'. Ends r' × HasGiven r r' read)
    → WritesAll begin mid (listed_heads columns streams)
    → WritesAll mid now (rows q.columns.now q.input (sure read))
    → EndsListing columns Ends name olds news' begin now
reading_ends columns Ends olds news' begin mid now streams q name read columns_are input_is
    name_is at before here =
    subst (λ s. EndsListing columns Ends s olds news' begin now) (sym name_is) (
      streams,
      read,
      input_is,
      at,
      subst (WritesAll begin now)
          (listed_here columns streams q (sure read) columns_are input_is)
          (writes_more begin mid now _ _ before here),
    )

-- listing ended at an input, and so it did of all
pub through_stops : (columns : List Column) (reads : ℕ) (olds news news' : List Reading)
    (begin mid now : Writing) (p q p' : Lister) (tally : Tally) (i : ℕ) (r r' : Reading)
    (e : ToolFault) → (t : ListedThrough columns reads olds news begin mid p tally i)
    → Reached olds news t.streams i r → news' ≡ set news i r'
    → q ≡ begun p i → ListsInput reads q p' r r' mid now (Err e)
    → Lists columns reads olds news' begin now (Err e)
through_stops columns reads olds news news' begin mid now p q p' tally i r r'
    (faults.ReadFailed name) t at is begun_is lists =
    let columns_are = begun_columns p q i begun_is in
    let input_is = begun_input p q i begun_is in
    let written_is = begun_written p q i begun_is in
    let many = streams_read olds news t.streams i t.through in
    reading_ends columns HasFailed olds news' begin mid now t.streams q name lists.2
    (columns_are ∙ t.listed.columns_are) (input_is ∙ ap (λ n. n + 1) (sym many)) lists.0
    (stops_here (λ x x'. HasFailed x' × HasGiven x x' lists.2) olds news news' t.streams i r r' at is
    (lists.1, lists.3))
    t.listed.written lists.4
through_stops columns reads olds news news' begin mid now p q p' tally i r r'
    (faults.EndlessInput name) t at is begun_is lists =
    let columns_are = begun_columns p q i begun_is in
    let input_is = begun_input p q i begun_is in
    let written_is = begun_written p q i begun_is in
    let many = streams_read olds news t.streams i t.through in
    reading_ends columns (IsEndless reads) olds news' begin mid now t.streams q name lists.2
    (columns_are ∙ t.listed.columns_are) (input_is ∙ ap (λ n. n + 1) (sym many)) lists.0
    (stops_here (λ x x'. IsEndless reads x' × HasGiven x x' lists.2) olds news news' t.streams i r r'
    at is (lists.1, lists.3))
    t.listed.written lists.4
through_stops columns reads olds news news' begin mid now p q p' tally i r r'
    (faults.WriteFailed written) t at is begun_is lists =
    let columns_are = begun_columns p q i begun_is in
    let input_is = begun_input p q i begun_is in
    let written_is = begun_written p q i begun_is in
    let many = streams_read olds news t.streams i t.through in
    let frames = lists.0 in
    let f = lists.2 in
    let long : length (listed_heads columns t.streams) + f.0 ≡ written =
    omega (arith, f.1, written_is, t.listed.counted) in (
      t.streams,
      frames,
      inr (stops_here (λ x x'. GivesFrames x x' frames) olds news news' t.streams i r r' at is lists.1),
      subst (λ n. FailsAfter n begin now (listed_to columns t.streams frames)) long
          (subst (FailsAfter (length (listed_heads columns t.streams) + f.0) begin now)
          (listed_here columns t.streams q frames (columns_are ∙ t.listed.columns_are)
          (input_is ∙ ap (λ n. n + 1) (sym many)))
          (fails_more begin mid now _ _ f.0 t.listed.written f.2)),
    )
through_stops columns reads olds news news' begin mid now p q p' tally i r r'
    faults.OutOfMemory t at is begun_is lists =
    let columns_are = begun_columns p q i begun_is in
    let input_is = begun_input p q i begun_is in
    let many = streams_read olds news t.streams i t.through in
    let w = lists.2 in
    inr (
      t.streams,
      w.done,
      w.rest,
      inr (stops_here (λ x x'. GivesFrames x x' (w.done ++ w.rest)) olds news news' t.streams i r r'
          at is (subst (GivesFrames r r') w.parted lists.1)),
      subst (WritesAll begin now)
          (listed_here columns t.streams q w.done (columns_are ∙ t.listed.columns_are)
          (input_is ∙ ap (λ n. n + 1) (sym many)))
          (writes_more begin mid now _ _ t.listed.written w.written),
    )
through_stops columns reads olds news news' begin mid now p q p' tally i r r' e t at is begun_is lists =
    absurd lists.2

-- ---- the end

-- the writer fails when what was written is handed on
pub ends_unwritten : (columns : List Column) (reads : ℕ) (olds news : List Reading)
    (begin mid now : Writing) (p : Lister) (tally : Tally) (e : ToolFault)
    → ListsInputs columns reads olds news begin mid p (Ok tally)
    → WritesAfter p.rows.written [] mid now (Err e) → Lists columns reads olds news begin now (Err e)
ends_unwritten columns reads olds news begin mid now p tally (faults.WriteFailed written) lists w =
    let text = listed_heads columns lists.0 in
    let long : length text + w.0 ≡ written = omega (arith, w.1, lists.2.counted) in (
      lists.0,
      [],
      inl (read_before olds news lists.0 lists.1, refl),
      subst (λ n. FailsAfter n begin now (listed_to columns lists.0 [])) long
          (subst (FailsAfter (length text + w.0) begin now) (listed_on columns lists.0 [])
          (fails_more begin mid now text [] w.0 lists.2.written w.2)),
    )
ends_unwritten columns reads olds news begin mid now p tally e lists w = absurd w

-- the writer took all lines, and the rest of none
pub ends_written : (columns : List Column) (reads : ℕ) (olds news : List Reading)
    (begin mid now : Writing) (p : Lister) (tally : Tally)
    → ListsInputs columns reads olds news begin mid p (Ok tally) → WritesAll mid now []
    → Lists columns reads olds news begin now (Ok tally)
ends_written columns reads olds news begin mid now p tally lists w =
    let text = listed_heads columns lists.0 in (
      lists.0,
      lists.1,
      subst (WritesAll begin now) (append-nil text)
          (writes_more begin mid now text [] lists.2.written w),
      lists.3,
    )
