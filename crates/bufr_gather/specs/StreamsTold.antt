-- The messages and reports of streams, and streams with the same messages.
use Rattle.std.specs.Prelude.{◌≡◌, ℕ, Bool, is_ok, true, List, map}
use Rattle.std.specs.List.{flat_map}
use Rattle.bufr_tables.specs.Entries.{Entries}
use Rattle.bufr_frame.specs.declared.frames.Found.{Found}
use Rattle.bufr_frame.specs.Streams.{cut}
use Rattle.bufr_entries.specs.Keeping.{Has}
use Rattle.bufr_sections.specs.Sections.{AreOctets}
use Rattle.bufr_message.specs.declared.report.Report.{Report}
use Rattle.bufr_message.specs.Messages.{message_of}
use Rattle.bufr_message.specs.Reports.{reports_in}
use Rattle.bufr_gather.specs.ReportEntries.{AreUnder, kept_of}
use Rattle.bufr_gather.specs.ReportTexts.{told}

-- octets spell a message
abbrev pub spells : Entries → List ℕ → Bool
spells tables octets = is_ok (message_of tables octets)

-- the reports of the messages among frames, in order; a frame that spells none has none
abbrev pub reports_among : Entries → List Found → List Report
reports_among tables frames = flat_map (λ f. reports_in tables f.bytes) frames

-- the reports of ended streams, in order
abbrev pub all_told : Entries → List (List ℕ) → List Report
all_told tables streams = flat_map (told tables) streams

-- the octets of the frames of ended streams
abbrev pub frames_of : List (List ℕ) → List (List ℕ)
frames_of streams = flat_map (λ s. map (λ f. f.bytes) (cut s)) streams

-- two lists of streams have the same set of messages: a frame of one that spells a message is a
-- frame of the other
pub record HoldSameMessages (tables : Entries) (a b : List (List ℕ)) : Type 0 where
  pub first : (octets : List ℕ) → spells tables octets ≡ true
      → Has (frames_of a) octets → Has (frames_of b) octets
  pub second : (octets : List ℕ) → spells tables octets ≡ true
      → Has (frames_of b) octets → Has (frames_of a) octets

-- of streams with the same messages the same reports are kept, in any order and with any repeats
abbrev pub SameMessagesSameKept : Type 0
SameMessagesSameKept = (tables : Entries) (a b : List (List ℕ)) → HoldSameMessages tables a b
    → kept_of tables (all_told tables a) ≡ kept_of tables (all_told tables b)

-- each report of a stream is one under the tables: it has a canonical message
abbrev pub ReportsToldAreUnder : Type 0
ReportsToldAreUnder = (tables : Entries) (stream : List ℕ) → AreOctets stream
    → AreUnder tables (told tables stream)
