-- What gathering reports and messages does.
use Rattle.std.specs.Prelude.{◌≡◌, ℕ, Result, Ok, Err, List}
use Rattle.bufr_sections.specs.declared.message.Decoded.{Decoded}
use Rattle.bufr_message.specs.Messages.{message_of}
use Rattle.bufr_message.specs.Reports.{reports_of}
use Rattle.bufr_gather.specs.declared.add_fault.AddFault.{AddFault}
use Rattle.bufr_gather.specs.declared.add_fault.AddFault.TheVariants.{Refused, OutOfMemory}
use Rattle.bufr_gather.specs.Archives.{ArchiveView, AddsFirst, taken_in}
use Rattle.bufr_gather.specs.ReportEntries.{report_entries, entries_told}

-- What a call does that gathers the reports of a message, by its answer: the octets spell a
-- message, and all its reports were added; or they spell none, for this cause, and nothing is
-- changed; or memory ran out, and the first `done` of the message's reports were added.
abbrev pub AddsToBuilder : ArchiveView → ArchiveView → List ℕ → Result (Unit {0}) AddFault → Type 0
AddsToBuilder old new octets (Ok done) =
    (d : Decoded) × (message_of old.tables octets ≡ Ok d)
    × (new ≡ taken_in old (report_entries old.tables (reports_of d.message)))
AddsToBuilder old new octets (Err (Refused why)) =
    (message_of old.tables octets ≡ Err why) × (new ≡ old)
AddsToBuilder old new octets (Err (OutOfMemory done)) =
    AddsFirst old new (entries_told old.tables octets) done
