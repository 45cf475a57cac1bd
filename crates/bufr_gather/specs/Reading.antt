-- What reading an archive's text returns.
use Rattle.std.specs.Prelude.{ℕ, List, Result, Ok, Err}
use Rattle.bufr_tables.specs.Entries.{Entries}
use Rattle.bufr_entries.specs.declared.entry.Entry.{Entry}
use Rattle.bufr_gather.specs.declared.reading.ReadEntry.{ReadEntry}
use Rattle.bufr_gather.specs.declared.reading.NotAnArchive.{NotAnArchive}
use Rattle.bufr_gather.specs.Archives.{ArchiveView}
use Rattle.bufr_gather.specs.Texts.{entries_read}
use Rattle.bufr_gather.specs.ReportEntries.{entry_in}

-- an entry of the text
abbrev pub read : ReadEntry → Entry
read e = record { key = e.mark.key; update = e.mark.update; bytes = e.bytes.now }

-- the archive of these entries, or a fault at this place
abbrev pub archive_or : Entries → Result (List Entry) ℕ → Result ArchiveView NotAnArchive
archive_or tables (Ok es) = Ok (record { tables = tables; entries = es })
archive_or tables (Err place) = Err (record { place = place })

-- the archive of a text, or a fault at the first wrong entry
abbrev pub archive_read : Entries → List ℕ → Result ArchiveView NotAnArchive
archive_read tables octets = archive_or tables (entries_read (entry_in tables) octets)
