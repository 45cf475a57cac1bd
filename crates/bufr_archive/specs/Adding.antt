-- What adding reports and messages to an archive does, and how many change what it holds.
use Rattle.std.specs.Prelude.{◌≡◌, ℕ, ◌+◌, if◌then◌else◌, Option, Result, Ok, Err, List, [], ◌∷◌}
use Rattle.std.specs.Prelude.{◌++◌, length}
use Rattle.bufr_sections.specs.declared.message.Decoded.{Decoded}
use Rattle.bufr_message.specs.Messages.{message_of}
use Rattle.bufr_message.specs.Reports.{reports_of}
use Rattle.bufr_entries.specs.declared.entry.Entry.{Entry}
use Rattle.bufr_entries.specs.Entries.{changes}
use Rattle.bufr_gather.specs.declared.add_fault.RanOut.{RanOut}
use Rattle.bufr_gather.specs.declared.add_fault.AddFault.{AddFault}
use Rattle.bufr_gather.specs.declared.add_fault.AddFault.TheVariants.{Refused, OutOfMemory}
use Rattle.bufr_gather.specs.Archives.{ArchiveView, AddsFirst, taken_in, entries_of}
use Rattle.bufr_gather.specs.ReportEntries.{report_entries, entries_told}
use Rattle.bufr_archive.specs.declared.adding.Added.{Added}

-- ---- reports added one after the other

-- how many of some entries, put in one after the other, change what is kept
abbrev pub count_changes : List Entry → List Entry → ℕ
count_changes old [] = 0
count_changes old (e ∷ es) = (if changes old e then 1 else 0) + count_changes (old ++ e ∷ []) es

-- all reports are added and counted, and so are those that changed the archive
pub record AddsAll (old new : ArchiveView) (reports : List (Option Entry)) (added : Added)
    : Type 0 where
  pub archive : new ≡ taken_in old reports
  pub reports_added : added.reports ≡ length reports
  pub changed : added.changed ≡ count_changes old.entries (entries_of reports)

-- adding reports, by its answer
abbrev pub AddsReports : ArchiveView → ArchiveView → List (Option Entry) → Result Added RanOut
    → Type 0
AddsReports old new reports (Ok added) = AddsAll old new reports added
AddsReports old new reports (Err ran_out) = AddsFirst old new reports ran_out.done

-- adding a message, by its answer: the octets spell a message, and all its reports are added; or
-- they spell none, and nothing changes; or memory runs out, and the first `done` reports are added
abbrev pub AddsMessage : ArchiveView → ArchiveView → List ℕ → Result Added AddFault → Type 0
AddsMessage old new octets (Ok added) =
    (d : Decoded) × (message_of old.tables octets ≡ Ok d)
    × AddsAll old new (report_entries old.tables (reports_of d.message)) added
AddsMessage old new octets (Err (Refused why)) =
    (message_of old.tables octets ≡ Err why) × (new ≡ old)
AddsMessage old new octets (Err (OutOfMemory done)) =
    AddsFirst old new (entries_told old.tables octets) done
