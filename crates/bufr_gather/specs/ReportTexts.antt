-- Archive texts in terms of reports, and the reports of a stream.
use Rattle.std.specs.Prelude.{◌≡◌, ℕ, ◌<◌, ◌≤◌, List, length, take}
use Rattle.std.specs.List.{flat_map}
use Rattle.bufr_tables.specs.Entries.{Entries}
use Rattle.bufr_base.specs.declared.failure.Failure.{Failure}
use Rattle.bufr_base.specs.declared.failure.Failure.TheVariants.{Fault, OutOfMemory}
use Rattle.bufr_frame.specs.Streams.{cut}
use Rattle.bufr_message.specs.declared.report.Report.{Report}
use Rattle.bufr_message.specs.Reports.{reports_in}
use Rattle.bufr_entries.specs.declared.entry.Entry.{Entry}
use Rattle.bufr_entries.specs.Entries.{coarsely_kept}
use Rattle.bufr_gather.specs.declared.reading.NotAnArchive.{NotAnArchive}
use Rattle.bufr_gather.specs.Archives.{ArchiveView, entries_of}
use Rattle.bufr_gather.specs.Texts.{text}
use Rattle.bufr_gather.specs.ReportEntries.{AreUnder, report_entries, kept_of, text_of}

-- an archive's text: the text of some reports under the tables
pub record IsText (tables : Entries) (octets : List ℕ) : Type 0 where
  pub reports : List Report
  pub under : AreUnder tables reports
  pub says : octets ≡ text_of tables reports

-- the longest beginning that is a text has `place` octets, and is not the whole
pub record BreaksAt (tables : Entries) (octets : List ℕ) (place : ℕ) : Type 0 where
  pub front : IsText tables (take place octets)
  pub proper : place < length octets
  pub longest : (n : ℕ) → place < n → n ≤ length octets → IsText tables (take n octets) → ⊥

-- the archive of what is kept of reports
abbrev pub archive_of : Entries → List Report → ArchiveView
archive_of tables rs = record { tables = tables; entries = kept_of tables rs }

-- the octets are the text of some reports under the tables, and the archive holds what is kept of
-- them
abbrev pub IsArchiveOf : Entries → List ℕ → ArchiveView → Type 0
IsArchiveOf tables octets archive = (rs : List Report) × AreUnder tables rs
    × (octets ≡ text_of tables rs) × (archive ≡ archive_of tables rs)

-- a fault has the place where the octets break
abbrev pub RefusedAt : Entries → List ℕ → Failure NotAnArchive → Type 0
RefusedAt tables octets OutOfMemory = Unit {0}
RefusedAt tables octets (Fault f) = BreaksAt tables octets f.place

-- ---- texts from before, while keys had no sub-centre

-- the entries kept of reports while keys had no sub-centre
abbrev pub kept_before : Entries → List Report → List Entry
kept_before tables rs = coarsely_kept (entries_of (report_entries tables rs))

-- a text from before: the canonical messages that were kept of some reports, joined
pub record IsTextFromBefore (tables : Entries) (octets : List ℕ) : Type 0 where
  pub reports : List Report
  pub under : AreUnder tables reports
  pub says : octets ≡ text (kept_before tables reports)

-- ---- the reports of a stream

-- the reports of the messages that the frames of a stream spell, in order; a frame that spells none
-- has none
abbrev pub told : Entries → List ℕ → List Report
told tables stream = flat_map (λ f. reports_in tables f.bytes) (cut stream)
