-- What `run_ls` returns and does.
use Rattle.std.specs.Prelude.{◌≡◌, ℕ, ◌+◌, ◌⊎◌, List, ◌++◌, length}
use Rattle.std.specs.Prelude.{Result, Ok, Err}
use Rattle.bufr_bits.specs.Devices.{Reading, Writing}
use Rattle.bufr_frame.specs.declared.frames.Found.{Found}
use Rattle.bufr_frame.specs.Streams.{sure}
use Rattle.bufr_io.specs.declared.fault.Input.{Input}
use Rattle.bufr_io.specs.declared.fault.Input.TheVariants.{TableB, TableD, Number}
use Rattle.bufr_io.specs.declared.fault.Tally.{Tally}
use Rattle.bufr_io.specs.declared.fault.ToolFault.{ToolFault}
use Rattle.bufr_io.specs.declared.fault.ToolFault.TheVariants as faults
use Rattle.bufr_io.specs.Engines.{HasFailed, IsEndless, HasGiven, WritesAll, FailsAfter}
use Rattle.bufr_io.specs.Readers.{AreReadTo, AreTold, WereReadOut}
use Rattle.bufr_io.specs.Reached.{HasReached}
use Rattle.bufr_ls_engine.specs.Rows.{counted, listed_heads, listed_to}
use Rattle.bufr_ls_engine.specs.declared.column.Column.{Column}

-- Reading ended at the reader of this number, counted from 1. The writer took the header line, the rows
-- of all readers before it, and the rows of the sure frames of what it gave, and nothing else.
abbrev pub EndsListing : List Column → (Reading → Type 0) → Input → List Reading → List Reading
    → Writing → Writing → Type 0
EndsListing columns Ends (Number number) old new writer writer' =
    (streams : List (List ℕ)) × (read : List ℕ) × (number ≡ length streams + 1)
    × AreReadTo old new streams (λ r r'. Ends r' × HasGiven r r' read)
    × WritesAll writer writer' (listed_to columns streams (sure read))
EndsListing columns Ends TableB old new writer writer' = ⊥
EndsListing columns Ends TableD old new writer writer' = ⊥

-- Memory ran out. The writer took nothing; or the header line, the rows of the readers that ended, and
-- the rows of the first frames of the next, and nothing else.
abbrev pub RunsOut : List Column → List Reading → List Reading → Writing → Writing → Type 0
RunsOut columns old new writer writer' =
    (writer' ≡ writer)
    ⊎ ((streams : List (List ℕ)) × (done : List Found) × (rest : List Found)
    × HasReached old new streams (done ++ rest)
    × WritesAll writer writer' (listed_to columns streams done))

-- What `run_ls` returns and does, from readers and a writer that work to what it leaves of them.
-- Without a fault the writer took all lines of all streams. If a read failed or an input is endless, it
-- took the rows of the inputs before and of the sure frames. If the writer failed, it took exactly n
-- octets, a front of the rows of the frames so far. If memory ran out, it took whole lines of them.
abbrev pub Lists : List Column → ℕ → List Reading → List Reading → Writing → Writing
    → Result Tally ToolFault → Type 0
Lists columns reads readers readers' writer writer' (Ok tally) =
    (streams : List (List ℕ)) × WereReadOut readers readers' streams
    × WritesAll writer writer' (listed_heads columns streams) × (tally ≡ counted streams)
Lists columns reads readers readers' writer writer' (Err (faults.ReadFailed name)) =
    EndsListing columns HasFailed name readers readers' writer writer'
Lists columns reads readers readers' writer writer' (Err (faults.EndlessInput name)) =
    EndsListing columns (IsEndless reads) name readers readers' writer writer'
Lists columns reads readers readers' writer writer' (Err (faults.WriteFailed written)) =
    (streams : List (List ℕ)) × (frames : List Found) × HasReached readers readers' streams frames
    × FailsAfter written writer writer' (listed_to columns streams frames)
Lists columns reads readers readers' writer writer' (Err faults.OutOfMemory) =
    RunsOut columns readers readers' writer writer'
Lists columns reads readers readers' writer writer' (Err fault) = ⊥

-- if the writer failed, it took n octets: the first of all lines of the streams that the readers tell
abbrev pub WritesFront : List Column → List Reading → Writing → Writing → ToolFault → Type 0
WritesFront columns readers writer writer' (faults.WriteFailed written) =
    (streams : List (List ℕ)) → AreTold readers streams
    → FailsAfter written writer writer' (listed_heads columns streams)
WritesFront columns readers writer writer' fault = Unit {0}
