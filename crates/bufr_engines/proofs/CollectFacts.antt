-- The loops of `add_streams` and `merge_readers`, reader by reader, and each way in which the
-- engines end: for `run_add` and `run_merge`.
use Rattle.std.proofs.Common.{◌≡◌, ℕ, suc, ◌+◌, ◌*◌, ◌≤◌, List, [], ◌∷◌, ◌++◌, length}
use Rattle.std.proofs.Common.{Ok, Err, refl, sym, ap, ◌∙◌, subst, arith, length-append}
use Rattle.std.proofs.lemmas.List.{append-nil}
use Rattle.std.proofs.lemmas.Grind.{flat_map-append}
use Rattle.std.proofs.Math.ListN.{set}
use Rattle.bufr_bits.specs.Devices.{Reading, Writing}
use Rattle.bufr_tables.specs.Entries.{Entries}
use Rattle.bufr_frame.specs.declared.frames.Found.{Found}
use Rattle.bufr_frame.specs.FrameBounds.{cut_few}
use Rattle.bufr_frame.specs.Streams.{cut}
use Rattle.bufr_message.specs.declared.report.Report.{Report}
use Rattle.bufr_message.specs.Reports.{reports_in}
use Rattle.bufr_entries.specs.declared.entry.Entry.{Entry}
use Rattle.bufr_entries.specs.Entries.{kept}
use Rattle.bufr_entries.specs.Orders.{kept-late}
use Rattle.bufr_gather.specs.Archives.{ArchiveView, entries_of, merged}
use Rattle.bufr_gather.specs.ReportEntries.{AreUnder, report_entries, kept_of, text_of}
use Rattle.bufr_gather.specs.ReportTexts.{told, archive_of}
use Rattle.bufr_gather.specs.Texts.{text}
use Rattle.bufr_io.specs.declared.fault.Tally.{Tally}
use Rattle.bufr_io.specs.declared.fault.Input.TheVariants.{Number}
use Rattle.bufr_io.specs.declared.fault.ToolFault.{ToolFault}
use Rattle.bufr_io.specs.declared.fault.ToolFault.TheVariants as faults
use Rattle.bufr_io.specs.Engines.{HasFailed, IsEndless, WritesAll}
use Rattle.bufr_io.specs.Engines.{WritesAfter, FailsAfter}
use Rattle.bufr_io.specs.Inputs.{ReadsOn}
use Rattle.bufr_io.specs.declared.input.Pieces.{Pieces}
use Rattle.bufr_io.specs.Limits.{most_reads}
use Rattle.bufr_engines.specs.declared.streams.FrameCounts.{FrameCounts}
use Rattle.bufr_gather.specs.StreamsTold.{all_told}
use Rattle.bufr_engines.specs.Refusals.{refused_of}
use Rattle.bufr_engines.specs.Collected.{frames_of, collected_text, collected_tally}
use Rattle.bufr_engines.specs.Collected.{AreTextsOf, all_of}
use Rattle.bufr_io.specs.Readers.{AreFresh, AreReadAtMost, WereReadOut, EndsAt}
use Rattle.bufr_engines.specs.Collects.{AllReadOut, StreamsEndAt, Collects, AllArchives}
use Rattle.bufr_engines.specs.Collects.{ArchivesEndAt, IsNoArchive, Merges}
use Rattle.bufr_io.specs.Taking.{EndsEarly, unread, at_piece, at_end, TakesStream}
use Rattle.bufr_engines.specs.Adds.{reports_of_frames, HasAdded, HasAddedSince, AddsStreams}
use Rattle.bufr_engines.specs.Adds.{ReadsArchive, MergesReaders}
use Rattle.bufr_engines.specs.Parts.{WritesArchive}
use Rattle.bufr_engines.proofs.FrameFacts.{archive_with, kept_more}
use Rattle.bufr_io.specs.ReaderLaws.{Through, Reached, through_first, through_all}
use Rattle.bufr_io.specs.ReaderLaws.{through_more, ends_here, at_most_fresh, at_most_set}

-- ---- streams

-- adding stops only if memory runs out
abbrev pub RanOut : List Found → ToolFault → Type 0
RanOut frames fault = fault ≡ faults.OutOfMemory

-- has added the streams of the first `i` readers
pub record AddedThrough (tables : Entries) (reads : ℕ) (old new : List Reading)
    (archive : ArchiveView) (counts : FrameCounts) (i : ℕ) : Type 0 where
  pub streams : List (List ℕ)
  pub through : Through old new streams i
  pub added : HasAdded tables archive counts (frames_of streams)
  pub few : length (frames_of streams) ≤ 281474976710656 * i
  pub bounded : AreReadAtMost reads new

pub added_first : (tables : Entries) (reads : ℕ) (readers : List Reading) (archive : ArchiveView)
    (counts : FrameCounts) → AreFresh readers → HasAdded tables archive counts []
    → AddedThrough tables reads readers readers archive counts 0
added_first tables reads readers archive counts fresh empty = record {
  streams = [];
  through = through_first readers;
  added = empty;
  few = omega arith;
  bounded = at_most_fresh reads readers fresh;
}

frames_more : (streams : List (List ℕ)) (stream : List ℕ)
    → frames_of (streams ++ stream ∷ []) ≡ frames_of streams ++ cut stream
frames_more streams stream =
    flat_map-append cut streams (stream ∷ [])
    ∙ ap (λ (fs : List Found). frames_of streams ++ fs) (append-nil (cut stream))

pub added_next : (tables : Entries) (reads : ℕ) (old new new' : List Reading)
    (archive archive' : ArchiveView) (counts counts' : FrameCounts) (i : ℕ) (r r' : Reading)
    (long : ℕ) → reads ≤ most_reads
    → (a : AddedThrough tables reads old new archive counts i) → Reached old new a.streams i r
    → new' ≡ set new i r' → r'.reads ≤ reads
    → TakesStream (HasAddedSince archive counts archive' counts') (Unit {0}) RanOut (Number (i + 1))
    reads r r' (Ok long)
    → AddedThrough tables reads old new' archive' counts' (i + 1)
added_next tables reads old new new' archive archive' counts counts' i r r' long most a at is
    bounded takes =
    let stream = takes.1 in
    let more = frames_more a.streams stream in
    let all = ap length more ∙ length-append (frames_of a.streams) (cut stream) in
    let few = a.few in
    let some = cut_few stream in
    let short = takes.6 in
    record {
      streams = a.streams ++ stream ∷ [];
      through = through_more old new new' a.streams stream i r r' at is takes.0 takes.2;
      added =
          subst (HasAdded tables archive' counts') (sym more)
          (takes.4.added tables (frames_of a.streams) a.added);
      few = omega arith;
      bounded = subst (AreReadAtMost reads) (sym is) (at_most_set reads new i r' a.bounded bounded);
    }

pub bounded_next : (reads : ℕ) (new new' : List Reading) (i : ℕ) (r' : Reading)
    → AreReadAtMost reads new → new' ≡ set new i r' → r'.reads ≤ reads → AreReadAtMost reads new'
bounded_next reads new new' i r' all is bounded =
    subst (AreReadAtMost reads) (sym is) (at_most_set reads new i r' all bounded)

pub added_all : (tables : Entries) (reads : ℕ) (old new : List Reading) (archive : ArchiveView)
    (counts : FrameCounts) (i : ℕ) (done : Unit {0})
    → AddedThrough tables reads old new archive counts i
    → length new ≤ i → AddsStreams tables reads old new archive counts (Ok done)
added_all tables reads old new archive counts i done a all =
    (a.streams, through_all old new a.streams i a.through all, a.added)

unread_ends : (tables : Entries) (reads : ℕ) (old new new' : List Reading) (archive : ArchiveView)
    (counts : FrameCounts) (streams : List (List ℕ)) (i : ℕ) (r r' : Reading) (pieces : Pieces)
    (read : List ℕ) (e : ToolFault) → Reached old new streams i r → new' ≡ set new i r'
    → ReadsOn (Number (i + 1)) reads r r' pieces read (Err e)
    → AddsStreams tables reads old new' archive counts (Err e)
unread_ends tables reads old new new' archive counts streams i r r' pieces read
    (faults.ReadFailed name) at is ends =
    subst (λ s. StreamsEndAt HasFailed s old new') (sym ends.0)
    (ends_here AllReadOut (λ x y. HasFailed y) old new new' streams i r r' at is
    (λ xs ys out. (streams, out)) ends.1)
unread_ends tables reads old new new' archive counts streams i r r' pieces read
    (faults.EndlessInput name) at is ends =
    subst (λ s. StreamsEndAt (IsEndless reads) s old new') (sym ends.0)
    (ends_here AllReadOut (λ x y. IsEndless reads y) old new new' streams i r r' at is
    (λ xs ys out. (streams, out)) ends.1)
unread_ends tables reads old new new' archive counts streams i r r' pieces read e at is ends =
    absurd ends

pub added_ends : (tables : Entries) (reads : ℕ) (old new new' : List Reading)
    (Taken : List Found → Type 0) (archive : ArchiveView) (counts : FrameCounts)
    (streams : List (List ℕ)) (i : ℕ) (r r' : Reading) (e : ToolFault) → Reached old new streams i r
    → new' ≡ set new i r' → EndsEarly Taken (Unit {0}) RanOut (Number (i + 1)) reads r r' e
    → AddsStreams tables reads old new' archive counts (Err e)
added_ends tables reads old new new' Taken archive counts streams i r r' e at is
    (unread pieces read ends taken none) =
    unread_ends tables reads old new new' archive counts streams i r r' pieces read e at is ends
added_ends tables reads old new new' Taken archive counts streams i r r' e at is
    (at_piece read count on s) =
    subst (λ f. AddsStreams tables reads old new' archive counts (Err f)) (sym s.stopped) tt
added_ends tables reads old new new' Taken archive counts streams i r r' e at is
    (at_end stream out all given s) =
    subst (λ f. AddsStreams tables reads old new' archive counts (Err f)) (sym s.stopped) tt

pub told_frames : (tables : Entries) (streams : List (List ℕ))
    → reports_of_frames tables (frames_of streams) ≡ all_told tables streams
told_frames tables [] = refl
told_frames tables (stream ∷ streams) =
    flat_map-append (λ (f : Found). reports_in tables f.bytes) (cut stream) (frames_of streams)
    ∙ ap (λ (rs : List Report). told tables stream ++ rs) (told_frames tables streams)

pub collected_text_is : (tables : Entries) (archive : ArchiveView) (counts : FrameCounts)
    (streams : List (List ℕ)) (octets : List ℕ) → HasAdded tables archive counts (frames_of streams)
    → octets ≡ text archive.entries → octets ≡ collected_text tables streams
collected_text_is tables archive counts streams octets h is =
    is ∙ ap (λ (a : ArchiveView). text a.entries) h.archive_is
    ∙ ap (text_of tables) (told_frames tables streams)

-- the counts of `add`
abbrev pub counted : ℕ → ℕ → ℕ → Tally
counted frames refused reports =
    record { frames = frames; refused = refused; skipped = 0; reports = reports }

pub collected_tally_is : (tables : Entries) (archive : ArchiveView) (counts : FrameCounts)
    (streams : List (List ℕ)) (reports : ℕ) → HasAdded tables archive counts (frames_of streams)
    → reports ≡ length archive.entries
    → counted counts.frames counts.refused reports ≡ collected_tally tables streams
collected_tally_is tables archive counts streams reports h is =
    ap (λ (n : ℕ). counted n counts.refused reports) h.frames_are
    ∙ ap (λ (n : ℕ). counted (length (frames_of streams)) n reports) h.refused_are
    ∙ ap (λ (n : ℕ). counted (length (frames_of streams)) (refused_of tables (frames_of streams)) n)
    (is ∙ ap (λ (a : ArchiveView). length a.entries) h.archive_is
    ∙ ap (λ (rs : List Report). length (kept_of tables rs)) (told_frames tables streams))

pub collects_ok : (tables : Entries) (reads : ℕ) (old new : List Reading) (writer writer' : Writing)
    (archive : ArchiveView) (counts : FrameCounts) (octets : List ℕ) (reports : ℕ) (done : Unit {0})
    → AddsStreams tables reads old new archive counts (Ok done) → octets ≡ text archive.entries
    → reports ≡ length archive.entries → WritesAll writer writer' octets
    → Collects tables reads old new writer writer'
    (Ok (counted counts.frames counts.refused reports))
collects_ok tables reads old new writer writer' archive counts octets reports done adds is count
    writes = (
      adds.0,
      adds.1,
      subst (WritesAll writer writer')
          (collected_text_is tables archive counts adds.0 octets adds.2 is) writes,
      collected_tally_is tables archive counts adds.0 reports adds.2 count,
    )

pub collects_fails : (tables : Entries) (reads : ℕ) (old new : List Reading)
    (writer writer' : Writing) (archive : ArchiveView) (counts : FrameCounts) (octets : List ℕ)
    (done : Unit {0}) (e : ToolFault) → AddsStreams tables reads old new archive counts (Ok done)
    → octets ≡ text archive.entries → WritesAfter 0 octets writer writer' (Err e)
    → Collects tables reads old new writer writer' (Err e)
collects_fails tables reads old new writer writer' archive counts octets done
    (faults.WriteFailed written) adds is w =
    let same : written ≡ w.0 = omega (arith, w.1) in (
      adds.0,
      adds.1,
      subst (λ (n : ℕ). FailsAfter n writer writer' (collected_text tables adds.0)) (sym same)
          (subst (FailsAfter w.0 writer writer')
          (collected_text_is tables archive counts adds.0 octets adds.2 is) w.2),
    )
collects_fails tables reads old new writer writer' archive counts octets done
    (faults.ReadFailed name) adds is w = absurd w
collects_fails tables reads old new writer writer' archive counts octets done
    (faults.EndlessInput name) adds is w = absurd w
collects_fails tables reads old new writer writer' archive counts octets done faults.OutOfMemory
    adds is w = absurd w
collects_fails tables reads old new writer writer' archive counts octets done
    (faults.Table name fault) adds is w = absurd w
collects_fails tables reads old new writer writer' archive counts octets done
    (faults.Listing why) adds is w = absurd w
collects_fails tables reads old new writer writer' archive counts octets done
    (faults.Encode number why) adds is w = absurd w
collects_fails tables reads old new writer writer' archive counts octets done
    (faults.NotAnArchive input place) adds is w = absurd w

pub collects_ends : (tables : Entries) (reads : ℕ) (old new : List Reading) (writer : Writing)
    (archive : ArchiveView) (counts : FrameCounts) (e : ToolFault)
    → AddsStreams tables reads old new archive counts (Err e)
    → Collects tables reads old new writer writer (Err e)
collects_ends tables reads old new writer archive counts (faults.ReadFailed name) adds =
    (adds, refl)
collects_ends tables reads old new writer archive counts (faults.EndlessInput name) adds =
    (adds, refl)
collects_ends tables reads old new writer archive counts faults.OutOfMemory adds = refl
collects_ends tables reads old new writer archive counts (faults.WriteFailed written) adds =
    absurd adds
collects_ends tables reads old new writer archive counts (faults.Table name fault) adds =
    absurd adds
collects_ends tables reads old new writer archive counts (faults.Listing why) adds = absurd adds
collects_ends tables reads old new writer archive counts (faults.Encode number why) adds =
    absurd adds
collects_ends tables reads old new writer archive counts (faults.NotAnArchive input place) adds =
    absurd adds

pub empty_added : (archive : ArchiveView) (tables : Entries)
    → archive ≡ record { tables = tables; entries = [] }
    → HasAdded archive.tables archive (record { frames = 0; refused = 0 }) []
empty_added archive tables is = record {
  archive_is = subst (λ (a : ArchiveView). a ≡ archive_of a.tables []) (sym is) refl;
  frames_are = refl;
  refused_are = refl;
}

-- ---- archives

-- has merged the archives of the first `i` readers
pub record MergedThrough (tables : Entries) (reads : ℕ) (old new : List Reading)
    (archive : ArchiveView) (i : ℕ) : Type 0 where
  pub texts : List (List ℕ)
  pub through : Through old new texts i
  pub lists : List (List Report)
  pub are : AreTextsOf tables texts lists
  pub merged_is : archive ≡ archive_of tables (all_of lists)
  pub bounded : AreReadAtMost reads new

pub merged_first : (tables : Entries) (reads : ℕ) (readers : List Reading) (archive : ArchiveView)
    → AreFresh readers → archive ≡ record { tables = tables; entries = [] }
    → MergedThrough tables reads readers readers archive 0
merged_first tables reads readers archive fresh empty = record {
  texts = [];
  through = through_first readers;
  lists = [];
  are = tt;
  merged_is = empty;
  bounded = at_most_fresh reads readers fresh;
}

texts_more : (tables : Entries) (texts : List (List ℕ)) (lists : List (List Report))
    (octets : List ℕ) (rs : List Report) → AreTextsOf tables texts lists → AreUnder tables rs
    → octets ≡ text_of tables rs → AreTextsOf tables (texts ++ octets ∷ []) (lists ++ rs ∷ [])
texts_more tables [] [] octets rs are under is = (under, is, tt)
texts_more tables (t ∷ texts) (l ∷ lists) octets rs are under is =
    (are.0, are.1, texts_more tables texts lists octets rs are.2 under is)
texts_more tables [] (l ∷ lists) octets rs are under is = absurd are
texts_more tables (t ∷ texts) [] octets rs are under is = absurd are

all_more : (lists : List (List Report)) (rs : List Report)
    → all_of (lists ++ rs ∷ []) ≡ all_of lists ++ rs
all_more lists rs =
    flat_map-append (λ (xs : List Report). xs) lists (rs ∷ [])
    ∙ ap (λ (xs : List Report). all_of lists ++ xs) (append-nil rs)

pub kept_both : (tables : Entries) (rs more : List Report)
    → kept (kept_of tables rs ++ kept_of tables more) ≡ kept_of tables (rs ++ more)
kept_both tables rs more =
    kept-late (kept_of tables rs) (entries_of (report_entries tables more))
    ∙ kept_more tables rs more

pub merged_next : (tables : Entries) (reads : ℕ) (old new new' : List Reading)
    (archive more archive' : ArchiveView) (i : ℕ) (r r' : Reading)
    → (m : MergedThrough tables reads old new archive i) → Reached old new m.texts i r
    → new' ≡ set new i r' → r'.reads ≤ reads → ReadsArchive tables (i + 1) reads r r' (Ok more)
    → archive' ≡ merged archive more → MergedThrough tables reads old new' archive' (i + 1)
merged_next tables reads old new new' archive more archive' i r r' m at is bounded read merged_is =
    let octets = read.1 in
    let rs = read.3.0 in
    record {
      texts = m.texts ++ octets ∷ [];
      through = through_more old new new' m.texts octets i r r' at is read.0 read.2;
      lists = m.lists ++ rs ∷ [];
      are = texts_more tables m.texts m.lists octets rs m.are read.3.1 read.3.2;
      merged_is = merged_is
          ∙ ap (λ (a : ArchiveView). merged a more) m.merged_is
          ∙ ap (λ (a : ArchiveView). merged (archive_of tables (all_of m.lists)) a) read.3.3
          ∙ ap (λ (es : List Entry). archive_with tables es) (kept_both tables (all_of m.lists) rs)
          ∙ ap (archive_of tables) (sym (all_more m.lists rs));
      bounded = subst (AreReadAtMost reads) (sym is) (at_most_set reads new i r' m.bounded bounded);
    }

pub merged_tables : (tables : Entries) (reads : ℕ) (old new : List Reading)
    (archive more : ArchiveView) (number i : ℕ) (r r' : Reading)
    → MergedThrough tables reads old new archive i → ReadsArchive tables number reads r r' (Ok more)
    → archive.tables ≡ more.tables
merged_tables tables reads old new archive more number i r r' m read =
    ap (λ (a : ArchiveView). a.tables) m.merged_is
    ∙ sym (ap (λ (a : ArchiveView). a.tables) read.3.3)

pub merged_all : (tables : Entries) (reads : ℕ) (old new : List Reading) (archive : ArchiveView)
    (i : ℕ) → MergedThrough tables reads old new archive i → length new ≤ i
    → MergesReaders tables reads old new (Ok archive)
merged_all tables reads old new archive i m all =
    (m.texts, through_all old new m.texts i m.through all, m.lists, m.are, m.merged_is)

pub merged_ends : (tables : Entries) (reads : ℕ) (old new new' : List Reading)
    (archive : ArchiveView) (i : ℕ) (r r' : Reading) (e : ToolFault)
    → (m : MergedThrough tables reads old new archive i) → Reached old new m.texts i r
    → new' ≡ set new i r' → ReadsArchive tables (i + 1) reads r r' (Err e)
    → MergesReaders tables reads old new' (Err e)
merged_ends tables reads old new new' archive i r r' (faults.ReadFailed name) m at is read =
    subst (λ s. ArchivesEndAt tables HasFailed s old new') (sym read.0)
    (ends_here (AllArchives tables) (λ x y. HasFailed y) old new new' m.texts i r r' at is
    (λ xs ys out. (m.texts, out, m.lists, m.are)) read.1)
merged_ends tables reads old new new' archive i r r' (faults.EndlessInput name) m at is read =
    subst (λ s. ArchivesEndAt tables (IsEndless reads) s old new') (sym read.0)
    (ends_here (AllArchives tables) (λ x y. IsEndless reads y) old new new' m.texts i r r' at is
    (λ xs ys out. (m.texts, out, m.lists, m.are)) read.1)
merged_ends tables reads old new new' archive i r r'
    (faults.NotAnArchive input place) m at is read =
    subst (λ (n : ℕ). EndsAt (AllArchives tables) (IsNoArchive tables place) n old new')
    (sym read.0)
    (ends_here (AllArchives tables) (IsNoArchive tables place) old new new' m.texts i r r' at is
    (λ xs ys out. (m.texts, out, m.lists, m.are)) read.1)
merged_ends tables reads old new new' archive i r r' faults.OutOfMemory m at is read = tt
merged_ends tables reads old new new' archive i r r' (faults.WriteFailed written) m at is read =
    absurd read
merged_ends tables reads old new new' archive i r r' (faults.Table name fault) m at is read =
    absurd read
merged_ends tables reads old new new' archive i r r' (faults.Listing why) m at is read = absurd read
merged_ends tables reads old new new' archive i r r' (faults.Encode number why) m at is read =
    absurd read

as_many_lists : (tables : Entries) (texts : List (List ℕ)) (lists : List (List Report))
    → AreTextsOf tables texts lists → length lists ≡ length texts
as_many_lists tables [] [] are = refl
as_many_lists tables (t ∷ texts) (l ∷ lists) are =
    ap (λ (n : ℕ). suc n) (as_many_lists tables texts lists are.2)
as_many_lists tables [] (l ∷ lists) are = absurd are
as_many_lists tables (t ∷ texts) [] are = absurd are

as_many_readers : (old new : List Reading) (texts : List (List ℕ)) → WereReadOut old new texts
    → length new ≡ length texts
as_many_readers [] [] [] out = refl
as_many_readers (o ∷ old) (n ∷ new) (x ∷ texts) out =
    ap (λ (k : ℕ). suc k) (as_many_readers old new texts out.2)
as_many_readers [] [] (x ∷ texts) out = absurd out
as_many_readers [] (n ∷ new) texts out = absurd out
as_many_readers (o ∷ old) [] texts out = absurd out
as_many_readers (o ∷ old) (n ∷ new) [] out = absurd out

pub merges_ok : (tables : Entries) (reads : ℕ) (old new : List Reading) (writer writer' : Writing)
    (archive : ArchiveView) (frames reports : ℕ)
    → MergesReaders tables reads old new (Ok archive) → frames ≡ length new
    → WritesArchive archive writer writer' (Ok reports)
    → Merges tables reads old new writer writer' (Ok (counted frames 0 reports))
merges_ok tables reads old new writer writer' archive frames reports m many writes =
    let lists = m.2 in
    let held = m.4 in (
      m.0,
      m.1,
      lists,
      m.3,
      subst (WritesAll writer writer') (ap (λ (a : ArchiveView). text a.entries) held) writes.0,
      ap (λ (n : ℕ). counted n 0 reports)
          (many ∙ as_many_readers old new m.0 m.1 ∙ sym (as_many_lists tables m.0 lists m.3))
          ∙ ap (λ (n : ℕ). counted (length lists) 0 n)
          (writes.1 ∙ ap (λ (a : ArchiveView). length a.entries) held),
    )

pub merges_fails : (tables : Entries) (reads : ℕ) (old new : List Reading)
    (writer writer' : Writing) (archive : ArchiveView) (e : ToolFault)
    → MergesReaders tables reads old new (Ok archive)
    → WritesArchive archive writer writer' (Err e)
    → Merges tables reads old new writer writer' (Err e)
merges_fails tables reads old new writer writer' archive (faults.WriteFailed written) m w = (
  m.0,
  m.1,
  m.2,
  m.3,
  subst (FailsAfter written writer writer') (ap (λ (a : ArchiveView). text a.entries) m.4) w,
)
merges_fails tables reads old new writer writer' archive faults.OutOfMemory m w = w
merges_fails tables reads old new writer writer' archive (faults.ReadFailed name) m w = absurd w
merges_fails tables reads old new writer writer' archive (faults.EndlessInput name) m w = absurd w
merges_fails tables reads old new writer writer' archive (faults.Table name fault) m w = absurd w
merges_fails tables reads old new writer writer' archive (faults.Listing why) m w = absurd w
merges_fails tables reads old new writer writer' archive (faults.Encode number why) m w = absurd w
merges_fails tables reads old new writer writer' archive (faults.NotAnArchive input place) m w =
    absurd w

pub merges_ends : (tables : Entries) (reads : ℕ) (old new : List Reading) (writer : Writing)
    (e : ToolFault) → MergesReaders tables reads old new (Err e)
    → Merges tables reads old new writer writer (Err e)
merges_ends tables reads old new writer (faults.ReadFailed name) m = (m, refl)
merges_ends tables reads old new writer (faults.EndlessInput name) m = (m, refl)
merges_ends tables reads old new writer (faults.NotAnArchive input place) m = (m, refl)
merges_ends tables reads old new writer faults.OutOfMemory m = refl
merges_ends tables reads old new writer (faults.WriteFailed written) m = absurd m
merges_ends tables reads old new writer (faults.Table name fault) m = absurd m
merges_ends tables reads old new writer (faults.Listing why) m = absurd m
merges_ends tables reads old new writer (faults.Encode number why) m = absurd m
