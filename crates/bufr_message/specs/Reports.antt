-- Reports, the subsets of a message with its head, and the one message of a report alone (this
-- project's own, over FM 94 BUFR edition 4).
use Rattle.std.specs.Prelude.{◌≡◌, ℕ, Bool, false, List, [], ◌∷◌, map, length, Option, Some, None}
use Rattle.std.specs.Prelude.{Result, Ok, Err}
use Rattle.std.specs.List.{AllByRecursion}
use Rattle.bufr_tables.specs.Entries.{Entries}
use Rattle.bufr_fields.specs.declared.field.Subset.{Subset}
use Rattle.bufr_sections.specs.declared.message.Head.{Head}
use Rattle.bufr_sections.specs.declared.message.Message.{Message}
use Rattle.bufr_sections.specs.declared.message.Decoded.{Decoded}
use Rattle.bufr_sections.specs.declared.fault.Refused.{Refused}
use Rattle.bufr_sections.specs.declared.fault.EncodeFault.{EncodeFault}
use Rattle.bufr_message.specs.declared.report.Report.{Report}
use Rattle.bufr_message.specs.declared.report.ReportHead.{ReportHead}
use Rattle.bufr_message.specs.Messages.{message_of, octets_alone, Spells}
use Rattle.bufr_message.specs.Encodings.{code, SpellsBare}

-- ---- the reports of a message

-- section 1 without its octets for local use (FM 94 BUFR edition 4, section 1, octets 5 to 22)
abbrev pub without_local : Head → ReportHead
without_local h = record {
  centre = h.centre;
  sub_centre = h.sub_centre;
  update = h.update;
  category = h.category;
  international = h.international;
  local_category = h.local_category;
  master_version = h.master_version;
  local_version = h.local_version;
  year = h.year;
  month = h.month;
  day = h.day;
  hour = h.hour;
  minute = h.minute;
  second = h.second;
}

-- a subset with the head, the flag and the descriptors of its message
abbrev pub with_parts : Head → Bool → List ℕ → Subset → Report
with_parts head observed descriptors subset =
    record {
      head = without_local head;
      observed = observed;
      descriptors = descriptors;
      subset = subset;
    }

-- one subset of a message, as a report
abbrev pub report_of : Message → Subset → Report
report_of m subset = with_parts m.head m.observed m.descriptors subset

-- one report for each subset, in order
abbrev pub reports_of : Message → List Report
reports_of m = map (report_of m) m.subsets

-- the reports of the message as read, none after a refusal
abbrev pub reports_read : Result Decoded Refused → List Report
reports_read (Ok d) = reports_of d.message
reports_read (Err e) = []

-- the reports of octets under the tables
abbrev pub reports_in : Entries → List ℕ → List Report
reports_in tables octets = reports_read (message_of tables octets)

-- ---- the canonical message of a report

-- section 1 with no octets for local use
abbrev pub with_no_local : ReportHead → Head
with_no_local h = record {
  centre = h.centre;
  sub_centre = h.sub_centre;
  update = h.update;
  category = h.category;
  international = h.international;
  local_category = h.local_category;
  master_version = h.master_version;
  local_version = h.local_version;
  year = h.year;
  month = h.month;
  day = h.day;
  hour = h.hour;
  minute = h.minute;
  second = h.second;
  local = [];
}

-- the message of a report alone: no octets for local use, no section 2, one subset, not compressed
abbrev pub alone : Report → Message
alone r = record {
  head = with_no_local r.head;
  section2 = None;
  observed = r.observed;
  compressed = false;
  descriptors = r.descriptors;
  subsets = r.subset ∷ [];
}

-- the octets of a message, none after a fault
abbrev pub if_written : Result (List ℕ) EncodeFault → Option (List ℕ)
if_written (Ok octets) = Some octets
if_written (Err fault) = None

-- the canonical message of a report, if it has one
abbrev pub canonical : Entries → Report → Option (List ℕ)
canonical tables r = if_written (code tables (alone r))

-- these octets are the canonical message of a report: they spell the report alone, in edition 4,
-- with zeros in all that readers ignore
pub record IsCanonical (tables : Entries) (r : Report) (octets : List ℕ) : Type 0 where
  pub spelt : SpellsBare tables (alone r) octets

-- a report is under the tables if it has a canonical message
abbrev pub IsUnder : Entries → Report → Type 0
IsUnder tables r = (octets : List ℕ) × IsCanonical tables r octets

-- ---- laws

-- two reports under the same tables with one canonical message are one
abbrev pub CanonicalTellsApart : Type 0
CanonicalTellsApart = (tables : Entries) (r s : Report) (octets : List ℕ)
    → IsCanonical tables r octets → IsCanonical tables s octets → r ≡ s

-- reading a canonical message returns its report alone, with nothing after it
abbrev pub CanonicalIsRead : Type 0
CanonicalIsRead = (tables : Entries) (r : Report) (octets : List ℕ) → IsCanonical tables r octets
    → (message_of tables octets ≡ Ok (record { message = alone r; slack_octets = 0 }))
    × (reports_in tables octets ≡ r ∷ [])

-- the length of a canonical message is `octets_alone`
abbrev pub CanonicalIsAsLong : Type 0
CanonicalIsAsLong = (tables : Entries) (r : Report) (octets : List ℕ)
    → IsCanonical tables r octets → length octets ≡ octets_alone r.descriptors r.subset

-- each report of a message that octets spell, plain or compressed, in edition 3 or 4, is under the
-- tables
abbrev pub ReportsSpeltAreUnder : Type 0
ReportsSpeltAreUnder = (tables : Entries) (m : Message) (octets : List ℕ) (slack : ℕ)
    → Spells tables m octets slack → AllByRecursion (IsUnder tables) (reports_of m)
