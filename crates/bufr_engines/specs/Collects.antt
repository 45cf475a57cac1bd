-- What the engines over archives return and write (this project's own).
use Rattle.std.specs.Prelude.{◌≡◌, ℕ, Result, Ok, Err, List}
use Rattle.bufr_bits.specs.Devices.{Reading, Writing}
use Rattle.bufr_tables.specs.Entries.{Entries}
use Rattle.bufr_message.specs.declared.report.Report.{Report}
use Rattle.bufr_io.specs.declared.fault.Input.{Input}
use Rattle.bufr_io.specs.declared.fault.Input.TheVariants.{TableB, TableD, Number}
use Rattle.bufr_io.specs.declared.fault.Tally.{Tally}
use Rattle.bufr_io.specs.declared.fault.ToolFault.{ToolFault}
use Rattle.bufr_io.specs.declared.fault.ToolFault.TheVariants as faults
use Rattle.bufr_io.specs.Engines.{WasReadOut, HasFailed, IsEndless, AreAllOf, WritesAll}
use Rattle.bufr_io.specs.Engines.{FailsAfter}
use Rattle.bufr_gather.specs.ReportTexts.{BreaksAt}
use Rattle.bufr_engines.specs.Collected.{collected_text}
use Rattle.bufr_engines.specs.Collected.{collected_tally, AreTextsOf, merged_text}
use Rattle.bufr_engines.specs.Collected.{merged_tally}
use Rattle.bufr_io.specs.Readers.{WereReadOut, EndsAt}

-- ---- streams

-- reads each of the readers to its end
abbrev pub AllReadOut : List Reading → List Reading → Type 0
AllReadOut old new = (octets : List (List ℕ)) × WereReadOut old new octets

-- ends at the reader of this number, from 1, after it read those before to their ends
abbrev pub StreamsEndAt : (Reading → Type 0) → Input → List Reading → List Reading → Type 0
StreamsEndAt Ends (Number n) old new = EndsAt AllReadOut (λ r r'. Ends r') n old new
StreamsEndAt Ends TableB old new = ⊥
StreamsEndAt Ends TableD old new = ⊥

-- What `run_add` returns and does. Without a fault: it reads every reader to its end, writes the
-- text of the archive of all reports of the streams, and returns the tally. If the writer fails: it
-- has read every reader to its end, and has written exactly the first `written` octets of this
-- text. If a read fails or an input is endless: it has read the inputs before to their ends, has
-- not read the later ones, and has written nothing. If memory runs out: it has written nothing.
abbrev pub Collects : Entries → ℕ → List Reading → List Reading → Writing → Writing
    → Result Tally ToolFault → Type 0
Collects tables reads readers readers' writer writer' (Ok tally) =
    (streams : List (List ℕ)) × WereReadOut readers readers' streams
    × WritesAll writer writer' (collected_text tables streams)
    × (tally ≡ collected_tally tables streams)
Collects tables reads readers readers' writer writer' (Err (faults.WriteFailed written)) =
    (streams : List (List ℕ)) × WereReadOut readers readers' streams
    × FailsAfter written writer writer' (collected_text tables streams)
Collects tables reads readers readers' writer writer' (Err (faults.ReadFailed name)) =
    StreamsEndAt HasFailed name readers readers' × (writer' ≡ writer)
Collects tables reads readers readers' writer writer' (Err (faults.EndlessInput name)) =
    StreamsEndAt (IsEndless reads) name readers readers' × (writer' ≡ writer)
Collects tables reads readers readers' writer writer' (Err faults.OutOfMemory) =
    writer' ≡ writer
Collects tables reads readers readers' writer writer' (Err fault) = ⊥

-- ---- archives

-- reads each of the readers to its end, and each has the text of an archive
abbrev pub AllArchives : Entries → List Reading → List Reading → Type 0
AllArchives tables old new = (texts : List (List ℕ)) × WereReadOut old new texts
    × (lists : List (List Report)) × AreTextsOf tables texts lists

-- ends at the reader of this number, from 1, after those before gave the texts of archives
abbrev pub ArchivesEndAt : Entries → (Reading → Type 0) → Input → List Reading → List Reading
    → Type 0
ArchivesEndAt tables Ends (Number n) old new =
    EndsAt (AllArchives tables) (λ r r'. Ends r') n old new
ArchivesEndAt tables Ends TableB old new = ⊥
ArchivesEndAt tables Ends TableD old new = ⊥

-- reads a reader to its end, and its octets are no archive's text: they break at this place
abbrev pub IsNoArchive : Entries → ℕ → Reading → Reading → Type 0
IsNoArchive tables place r r' = WasReadOut r' × (octets : List ℕ) × AreAllOf r octets
    × BreaksAt tables octets place

-- What `run_merge` returns and does. Without a fault: it reads every reader to its end, each has
-- the text of an archive, and it writes the text of the archive of all their reports and returns
-- the tally. If the writer fails: the same, but it has written exactly the first `written` octets
-- of this text. If a read fails, or an input is endless or no archive: the inputs before had the
-- texts of archives, it has not read the later ones, and has written nothing. If memory runs out:
-- it has written nothing.
abbrev pub Merges : Entries → ℕ → List Reading → List Reading → Writing → Writing
    → Result Tally ToolFault → Type 0
Merges tables reads readers readers' writer writer' (Ok tally) =
    (texts : List (List ℕ)) × WereReadOut readers readers' texts
    × (lists : List (List Report)) × AreTextsOf tables texts lists
    × WritesAll writer writer' (merged_text tables lists)
    × (tally ≡ merged_tally tables lists)
Merges tables reads readers readers' writer writer' (Err (faults.WriteFailed written)) =
    (texts : List (List ℕ)) × WereReadOut readers readers' texts
    × (lists : List (List Report)) × AreTextsOf tables texts lists
    × FailsAfter written writer writer' (merged_text tables lists)
Merges tables reads readers readers' writer writer' (Err (faults.ReadFailed name)) =
    ArchivesEndAt tables HasFailed name readers readers' × (writer' ≡ writer)
Merges tables reads readers readers' writer writer' (Err (faults.EndlessInput name)) =
    ArchivesEndAt tables (IsEndless reads) name readers readers' × (writer' ≡ writer)
Merges tables reads readers readers' writer writer' (Err (faults.NotAnArchive input place)) =
    EndsAt (AllArchives tables) (IsNoArchive tables place) input readers readers'
    × (writer' ≡ writer)
Merges tables reads readers readers' writer writer' (Err faults.OutOfMemory) =
    writer' ≡ writer
Merges tables reads readers readers' writer writer' (Err fault) = ⊥
