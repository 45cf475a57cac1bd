-- Laws of the entries, texts and streams of reports.
use Rattle.std.specs.Prelude.{◌≡◌, ℕ, ◌≤◌, List, length, take, map, Some}
use Rattle.bufr_tables.specs.Entries.{Entries}
use Rattle.bufr_frame.specs.declared.frames.Found.{Found}
use Rattle.bufr_frame.specs.Streams.{cut}
use Rattle.bufr_frame.specs.Cuts.{frames_at}
use Rattle.bufr_sections.specs.declared.message.Message.{Message}
use Rattle.bufr_sections.specs.Sections.{AreOctets}
use Rattle.bufr_message.specs.declared.report.Report.{Report}
use Rattle.bufr_message.specs.Messages.{Spells}
use Rattle.bufr_message.specs.Reports.{reports_of}
use Rattle.bufr_entries.specs.declared.entry.Entry.{Entry}
use Rattle.bufr_entries.specs.Entries.{coarse_slot_cmp, rank_cmp}
use Rattle.bufr_entries.specs.Keeping.{Has, Within, AreKept}
use Rattle.bufr_gather.specs.Archives.{entries_of}
use Rattle.bufr_gather.specs.EntryLaws.{HasEntryLaws}
use Rattle.bufr_gather.specs.Texts.{text}
use Rattle.bufr_gather.specs.ReportEntries.{IsReportEntry, AreUnder, entry_in, report_entries}
use Rattle.bufr_gather.specs.ReportEntries.{kept_of, text_of}
use Rattle.bufr_gather.specs.ReportTexts.{IsText, BreaksAt, IsTextFromBefore, kept_before, told}

-- the entry of a report under the tables is found in its own octets and in no others, and these are
-- one frame
abbrev pub ReportsAreEntries : Type 0
ReportsAreEntries = (tables : Entries) → HasEntryLaws (IsReportEntry tables) (entry_in tables)

-- the frames of a text are its canonical messages in order, whatever their character data
abbrev pub FramesOfReports : Type 0
FramesOfReports = (tables : Entries) (rs : List Report) → AreUnder tables rs
    → cut (text_of tables rs) ≡ frames_at 0 (map (λ e. e.bytes) (kept_of tables rs))

-- the frames of a beginning with the first k messages whole begin with these
abbrev pub FramesOfReportFronts : Type 0
FramesOfReportFronts = (tables : Entries) (rs : List Report) (k n : ℕ) → AreUnder tables rs
    → k ≤ length (kept_of tables rs) → length (text (take k (kept_of tables rs))) ≤ n
    → take k (cut (take n (text_of tables rs)))
    ≡ frames_at 0 (map (λ e. e.bytes) (take k (kept_of tables rs)))

-- an archive keeps the same entries of a text's reports if the text is read as a stream
abbrev pub ReportTextsTell : Type 0
ReportTextsTell = (tables : Entries) (rs : List Report) → AreUnder tables rs
    → kept_of tables (told tables (text_of tables rs)) ≡ kept_of tables rs

-- octets break at no two places
abbrev pub BreaksAreSingle : Type 0
BreaksAreSingle = (tables : Entries) (octets : List ℕ) (p q : ℕ) → BreaksAt tables octets p
    → BreaksAt tables octets q → p ≡ q

-- a text does not break
abbrev pub TextsAreWhole : Type 0
TextsAreWhole = (tables : Entries) (octets : List ℕ) (p : ℕ) → IsText tables octets
    → BreaksAt tables octets p → ⊥

-- ks are reports among rs, with these entries in this order
pub record HaveEntries (tables : Entries) (rs ks : List Report) (es : List Entry) : Type 0 where
  pub under : AreUnder tables ks
  pub from : Within ks rs
  pub entries : report_entries tables ks ≡ map Some es

-- a text from before, while keys had no sub-centre, is the text of the reports kept then: all are
-- kept now, with the same entries in the same order
abbrev pub TextsFromBefore : Type 0
TextsFromBefore = (tables : Entries) (rs : List Report) → AreUnder tables rs
    → (ks : List Report) × HaveEntries tables rs ks (kept_before tables rs)
    × (kept_of tables ks ≡ kept_before tables rs)
    × (text_of tables ks ≡ text (kept_before tables rs))

-- a text from before is a text
abbrev pub FromBeforeAreTexts : Type 0
FromBeforeAreTexts = (tables : Entries) (octets : List ℕ) → IsTextFromBefore tables octets
    → IsText tables octets

-- the entries kept before are the best of each slot, by keys without sub-centre, in order
abbrev pub KeptBeforeIsTheBest : Type 0
KeptBeforeIsTheBest = (tables : Entries) (rs : List Report) → AreUnder tables rs
    → AreKept coarse_slot_cmp rank_cmp (entries_of (report_entries tables rs))
    (kept_before tables rs)

-- a report of a stream: a frame of the stream spells its message
pub record IsTold (tables : Entries) (stream : List ℕ) (r : Report) : Type 0 where
  pub frame : Found
  pub stands : Has (cut stream) frame
  pub message : Message
  pub slack : ℕ
  pub spells : Spells tables message frame.bytes slack
  pub says : Has (reports_of message) r

-- the reports of a stream are such,
abbrev pub ToldAreTold : Type 0
ToldAreTold = (tables : Entries) (stream : List ℕ) (r : Report) → AreOctets stream
    → Has (told tables stream) r → IsTold tables stream r

-- and all such reports are among them
abbrev pub OnlyToldAreTold : Type 0
OnlyToldAreTold = (tables : Entries) (stream : List ℕ) (r : Report)
    → IsTold tables stream r → Has (told tables stream) r
