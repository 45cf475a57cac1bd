-- What the callers promise, by the definitions of the crates below.
use Rattle.std.specs.Prelude.{◌≡◌, ℕ, List, length, Ok, Err}
use Rattle.bufr_tables.specs.Entries.{Entries}
use Rattle.bufr_message.specs.Decoded.{Decoded}
use Rattle.bufr_message.specs.Message.{Message}
use Rattle.bufr_message.specs.Messages.{Spells, message_of}
use Rattle.bufr_message.specs.Encodings.{SpellsBare, code}
use Rattle.bufr_message.specs.Reports.{reports_of}
use Rattle.bufr_archive.specs.Archives.{ArchiveView, taken_in}
use Rattle.bufr_archive.specs.ReportEntries.{report_entries}
use Rattle.bufr_archive.specs.ReportTexts.{IsArchiveOf, BreaksAt}
use Rattle.bufr_archive.specs.Texts.{text}
use Rattle.bufr_usage.specs.declared.rewriting.RewriteFault.{RewriteFault}
use Rattle.bufr_usage.specs.declared.rewriting.RewriteFault.TheVariants as rewrite
use Rattle.bufr_usage.specs.declared.keeping.KeepFault.{KeepFault}
use Rattle.bufr_usage.specs.declared.keeping.KeepFault.TheVariants as keep

-- the octets spell a message with `count` reports, one a subset (FM 94 BUFR, sections 0 to 5)
pub record HasSoManyReports (tables : Entries) (octets : List ℕ) (count : ℕ) : Type 0 where
  pub message : Message
  pub slack : ℕ
  pub spelled : Spells tables message octets slack
  pub counted : count ≡ length message.subsets

-- the octets spell a message, and `written` spells it with free octets and bits left empty (FM 94
-- BUFR, sections 0 to 5)
pub record IsRewritten (tables : Entries) (octets : List ℕ) (written : List ℕ) : Type 0 where
  pub message : Message
  pub slack : ℕ
  pub spelled : Spells tables message octets slack
  pub bare : SpellsBare tables message written

-- why octets are not rewritten: they spell no message, or their message has no encoding (FM 94
-- BUFR, sections 0 to 5)
abbrev pub IsNotRewritten : Entries → List ℕ → RewriteFault → Type 0
IsNotRewritten tables octets (rewrite.Refused why) = message_of tables octets ≡ Err why
IsNotRewritten tables octets (rewrite.Unwritable why) =
    (d : Decoded) × (message_of tables octets ≡ Ok d) × (code tables d.message ≡ Err why)
IsNotRewritten tables octets rewrite.OutOfMemory = Unit {0}

-- the file is the text of an archive, the octets spell a message, and `written` is the text of the
-- archive with the message's reports (this project's own)
pub record HasTakenIn (tables : Entries) (file message written : List ℕ) : Type 0 where
  pub archive : ArchiveView
  pub reads : IsArchiveOf tables file archive
  pub decoded : Decoded
  pub spells : message_of archive.tables message ≡ Ok decoded
  pub writes : written ≡ text
      (taken_in archive (report_entries archive.tables (reports_of decoded.message))).entries

-- why a message does not go into an archive: the file breaks at the place of the fault, or the
-- octets spell no message (this project's own)
abbrev pub IsNotTakenIn : Entries → List ℕ → List ℕ → KeepFault → Type 0
IsNotTakenIn tables file message (keep.NotAnArchive why) = BreaksAt tables file why.place
IsNotTakenIn tables file message (keep.Refused why) =
    (archive : ArchiveView) × IsArchiveOf tables file archive
    × (message_of archive.tables message ≡ Err why)
IsNotTakenIn tables file message keep.OutOfMemory = Unit {0}
