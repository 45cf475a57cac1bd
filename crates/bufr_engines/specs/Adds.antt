-- What an archive holds and counts after it added the messages of frames.
use Rattle.std.specs.Prelude.{◌≡◌, ℕ, ◌+◌, ◌^◌, ◌<◌, ◌≤◌, List, ◌++◌, length, Result, Ok, Err}
use Rattle.std.specs.List.{flat_map}
use Rattle.bufr_bits.specs.Devices.{Reading}
use Rattle.bufr_tables.specs.Entries.{Entries}
use Rattle.bufr_frame.specs.declared.frames.Found.{Found}
use Rattle.bufr_message.specs.declared.report.Report.{Report}
use Rattle.bufr_message.specs.Reports.{reports_in}
use Rattle.bufr_gather.specs.Archives.{ArchiveView}
use Rattle.bufr_io.specs.declared.fault.Input.TheVariants.{Number}
use Rattle.bufr_io.specs.declared.fault.ToolFault.{ToolFault}
use Rattle.bufr_io.specs.declared.fault.ToolFault.TheVariants as faults
use Rattle.bufr_io.specs.Engines.{WasReadOut, HasFailed, IsEndless, AreAllOf}
use Rattle.bufr_engines.specs.declared.streams.FrameCounts.{FrameCounts}
use Rattle.bufr_gather.specs.ReportTexts.{archive_of, IsArchiveOf}
use Rattle.bufr_engines.specs.Refusals.{refused_of}
use Rattle.bufr_engines.specs.Collected.{frames_of, AreTextsOf, all_of}
use Rattle.bufr_io.specs.Readers.{WereReadOut, EndsAt}
use Rattle.bufr_engines.specs.Collects.{StreamsEndAt, ArchivesEndAt, AllArchives, IsNoArchive}

-- ---- frames

-- the reports of the messages that frames spell
abbrev pub reports_of_frames : Entries → List Found → List Report
reports_of_frames tables frames = flat_map (λ f. reports_in tables f.bytes) frames

-- the archive keeps the messages of these frames, and the counts have the frames
pub record HasAdded (tables : Entries) (archive : ArchiveView) (counts : FrameCounts)
    (frames : List Found) : Type 0 where
  pub archive_is : archive ≡ archive_of tables (reports_of_frames tables frames)
  pub frames_are : counts.frames ≡ length frames
  pub refused_are : counts.refused ≡ refused_of tables frames

-- since the state `first` of the archive and `start` of its counts, it added and counted the
-- messages of these frames, after any frames added before
pub record HasAddedSince (first : ArchiveView) (start : FrameCounts) (archive : ArchiveView)
    (counts : FrameCounts) (frames : List Found) : Type 0 where
  pub few : start.frames < 2 ^ 127
  pub counted : counts.frames ≡ start.frames + length frames
  pub refused : counts.refused ≤ counts.frames
  pub added : (tables : Entries) (before : List Found) → HasAdded tables first start before
      → HasAdded tables archive counts (before ++ frames)

-- reads some readers to their ends and adds the messages of their streams' frames, or ends at one
-- of the readers
abbrev pub AddsStreams : Entries → ℕ → List Reading → List Reading → ArchiveView → FrameCounts
    → Result (Unit {0}) ToolFault → Type 0
AddsStreams tables reads olds news archive counts (Ok done) =
    (streams : List (List ℕ)) × WereReadOut olds news streams
    × HasAdded tables archive counts (frames_of streams)
AddsStreams tables reads olds news archive counts (Err (faults.ReadFailed name)) =
    StreamsEndAt HasFailed name olds news
AddsStreams tables reads olds news archive counts (Err (faults.EndlessInput name)) =
    StreamsEndAt (IsEndless reads) name olds news
AddsStreams tables reads olds news archive counts (Err faults.OutOfMemory) = Unit {0}
AddsStreams tables reads olds news archive counts (Err fault) = ⊥

-- ---- archives

-- reads a reader to its end and holds the archive of its text; or the reader fails, is endless or
-- has no archive's text
abbrev pub ReadsArchive : Entries → ℕ → ℕ → Reading → Reading → Result ArchiveView ToolFault
    → Type 0
ReadsArchive tables number reads old new (Ok archive) =
    WasReadOut new × (octets : List ℕ) × AreAllOf old octets × IsArchiveOf tables octets archive
ReadsArchive tables number reads old new (Err (faults.ReadFailed which)) =
    (which ≡ Number number) × HasFailed new
ReadsArchive tables number reads old new (Err (faults.EndlessInput which)) =
    (which ≡ Number number) × IsEndless reads new
ReadsArchive tables number reads old new (Err (faults.NotAnArchive input place)) =
    (input ≡ number) × IsNoArchive tables place old new
ReadsArchive tables number reads old new (Err faults.OutOfMemory) = Unit {0}
ReadsArchive tables number reads old new (Err fault) = ⊥

-- reads some readers to their ends and holds the archive of all reports of their archives, or ends
-- at one of the readers
abbrev pub MergesReaders : Entries → ℕ → List Reading → List Reading
    → Result ArchiveView ToolFault → Type 0
MergesReaders tables reads olds news (Ok archive) =
    (texts : List (List ℕ)) × WereReadOut olds news texts
    × (lists : List (List Report)) × AreTextsOf tables texts lists
    × (archive ≡ archive_of tables (all_of lists))
MergesReaders tables reads olds news (Err (faults.ReadFailed name)) =
    ArchivesEndAt tables HasFailed name olds news
MergesReaders tables reads olds news (Err (faults.EndlessInput name)) =
    ArchivesEndAt tables (IsEndless reads) name olds news
MergesReaders tables reads olds news (Err (faults.NotAnArchive input place)) =
    EndsAt (AllArchives tables) (IsNoArchive tables place) input olds news
MergesReaders tables reads olds news (Err faults.OutOfMemory) = Unit {0}
MergesReaders tables reads olds news (Err fault) = ⊥
