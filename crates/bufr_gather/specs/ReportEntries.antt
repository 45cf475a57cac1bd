-- Reports as entries: their keys, their octets, and the entry that octets are (this project's own,
-- over FM 94 BUFR edition 4).
use Rattle.std.specs.Prelude.{◌≡◌, ℕ, Bool, false, bytes_eq, if◌then◌else◌, List, [], ◌∷◌, Option}
use Rattle.std.specs.Prelude.{Some, None, option_map, map, slice_get}
use Rattle.std.specs.List.{AllByRecursion}
use Rattle.bufr_tables.specs.Entries.{Entries}
use Rattle.bufr_report_keys.specs.Usable.{◌>>=◌}
use Rattle.bufr_report_keys.specs.Keys.{key}
use Rattle.bufr_message.specs.declared.report.Report.{Report}
use Rattle.bufr_message.specs.OwnBits.{spelt_alone}
use Rattle.bufr_message.specs.Reports.{reports_in, canonical, IsCanonical, IsUnder}
use Rattle.bufr_entries.specs.declared.key.Key.{Key}
use Rattle.bufr_entries.specs.declared.entry.Entry.{Entry}
use Rattle.bufr_entries.specs.Entries.{kept}
use Rattle.bufr_gather.specs.Archives.{entries_of}
use Rattle.bufr_gather.specs.Texts.{text}

-- ---- keys

-- the key of a report, if its subset has a station and a moment
abbrev pub key_of : Report → Option Key
key_of r = key r.head r.subset.fields

-- ---- entries

-- the entry of a report with these octets
abbrev pub entry_with : Report → List ℕ → Entry
entry_with r octets = record { key = key_of r; update = r.head.update; bytes = octets }

-- the entry of a report under the tables, with its canonical message
abbrev pub entry_of : Entries → Report → Option Entry
entry_of tables r = option_map (entry_with r) (canonical tables r)

-- the entry of each report
abbrev pub report_entries : Entries → List Report → List (Option Entry)
report_entries tables rs = map (entry_of tables) rs

-- the entry that a report's own fields spell; for a report under tables it is its entry under them
abbrev pub spelt_entry : Report → Option Entry
spelt_entry r = option_map (entry_with r) (spelt_alone r)

-- the octets that the own fields of the report at an index spell
abbrev pub spelt_at : List Report → ℕ → Option (List ℕ)
spelt_at rs index = slice_get rs index >>= spelt_alone

-- the entry that each report's own fields spell
abbrev pub spelt_entries : List Report → List (Option Entry)
spelt_entries rs = map spelt_entry rs

-- the entries of all reports of the message that octets spell
abbrev pub entries_told : Entries → List ℕ → List (Option Entry)
entries_told tables octets = report_entries tables (reports_in tables octets)

-- what is kept of reports
abbrev pub kept_of : Entries → List Report → List Entry
kept_of tables rs = kept (entries_of (report_entries tables rs))

-- the text of reports: the canonical messages kept, in archive order
abbrev pub text_of : Entries → List Report → List ℕ
text_of tables rs = text (kept_of tables rs)

-- an entry of a report under the tables
pub record IsReportEntry (tables : Entries) (e : Entry) : Type 0 where
  pub report : Report
  pub canon : IsCanonical tables report e.bytes
  pub is : e ≡ entry_with report e.bytes

-- all reports are under the tables
abbrev pub AreUnder : Entries → List Report → Type 0
AreUnder tables rs = AllByRecursion (IsUnder tables) rs

-- ---- the entry that octets are

-- the octets are this canonical message
abbrev pub is_canonical : Option (List ℕ) → List ℕ → Bool
is_canonical None octets = false
is_canonical (Some canon) octets = bytes_eq canon octets

-- the only report of a list
abbrev pub only_one : List Report → Option Report
only_one (r ∷ []) = Some r
only_one _ = None

-- the entry of a report, if these octets are its canonical message
abbrev pub own_entry : Entries → List ℕ → Report → Option Entry
own_entry tables octets r =
    if is_canonical (canonical tables r) octets then Some (entry_with r octets) else None

-- the entry of a report, if its own fields spell these octets
abbrev pub entry_spelt : List ℕ → Report → Option Entry
entry_spelt octets r =
    if is_canonical (spelt_alone r) octets then Some (entry_with r octets) else None

-- the entry that octets are: the canonical message of their one report
abbrev pub entry_in : Entries → List ℕ → Option Entry
entry_in tables octets = only_one (reports_in tables octets) >>= own_entry tables octets
