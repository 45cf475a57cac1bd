-- What an archive is in contracts, and the reports that it takes in.
use Rattle.std.specs.Prelude.{◌≡◌, ℕ, ◌≤◌, Option, option_to_list, List, ◌++◌, length, take}
use Rattle.std.specs.List.{flat_map}
use Rattle.bufr_tables.specs.Entries.{Entries}
use Rattle.bufr_entries.specs.declared.entry.Entry.{Entry}
use Rattle.bufr_entries.specs.Entries.{kept}

-- an archive: its tables, and the entries that it holds
pub record ArchiveView : Type 0 where
  pub tables : Entries
  pub entries : List Entry

-- archive a with the entries of b merged in
abbrev pub merged : ArchiveView → ArchiveView → ArchiveView
merged a b = record a { entries = kept (a.entries ++ b.entries) }

-- an archive holds what is kept: one entry of each slot, in order of slots
abbrev pub IsKept : ArchiveView → Type 0
IsKept a = kept a.entries ≡ a.entries

-- ---- adding reports

-- the entries of reports; a report has one or none
abbrev pub entries_of : List (Option Entry) → List Entry
entries_of reports = flat_map option_to_list reports

-- the archive with these reports added
abbrev pub taken_in : ArchiveView → List (Option Entry) → ArchiveView
taken_in archive reports = record archive { entries = kept (archive.entries ++ entries_of reports) }

-- memory ran out after the first `done` reports
pub record AddsFirst (old new : ArchiveView) (reports : List (Option Entry)) (done : ℕ)
    : Type 0 where
  pub few : done ≤ length reports
  pub archive : new ≡ taken_in old (take done reports)
