-- The contents of a stack of archives' texts (private contracts).
use Rattle.std.specs.Prelude.{◌≡◌, List}
use Rattle.std.specs.List.{flat_map, All}
use Rattle.bufr_tables.specs.Entries.{Entries}
use Rattle.bufr_entries.specs.declared.entry.Entry.{Entry}
use Rattle.bufr_entries.specs.Entries.{kept}
use Rattle.bufr_gather.specs.Archives.{ArchiveView}

-- the entries of archives, one after another
abbrev pub entries_together : List ArchiveView → List Entry
entries_together archives = flat_map (λ a. a.entries) archives

-- the archive of all entries of some archives
abbrev pub together : Entries → List ArchiveView → ArchiveView
together tables archives = record { tables = tables; entries = kept (entries_together archives) }

-- each of some archives is under the tables
abbrev pub AreUnderTables : Entries → List ArchiveView → Type 0
AreUnderTables tables archives = All (λ a. a.tables ≡ tables) archives
