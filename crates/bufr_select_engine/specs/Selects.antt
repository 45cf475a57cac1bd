-- What `run_select` returns and does.
use Rattle.std.specs.Prelude.{◌≡◌, ℕ, ◌+◌, ◌⊎◌, List, ◌++◌, length, Result, Ok, Err}
use Rattle.bufr_bits.specs.Devices.{Reading, Writing}
use Rattle.bufr_frame.specs.declared.frames.Found.{Found}
use Rattle.bufr_frame.specs.Streams.{sure}
use Rattle.bufr_io.specs.declared.fault.Input.{Input}
use Rattle.bufr_io.specs.declared.fault.Input.TheVariants.{TableB, TableD, Number}
use Rattle.bufr_io.specs.declared.fault.Tally.{Tally}
use Rattle.bufr_io.specs.declared.fault.ToolFault.{ToolFault}
use Rattle.bufr_io.specs.declared.fault.ToolFault.TheVariants as faults
use Rattle.bufr_io.specs.Engines.{HasFailed, IsEndless, HasGiven, WritesAll, FailsAfter}
use Rattle.bufr_io.specs.Lines.{WritesLines}
use Rattle.bufr_io.specs.Reached.{HasReached}
use Rattle.bufr_io.specs.Readers.{AreReadTo, AreTold, WereReadOut}
use Rattle.bufr_select_engine.specs.Selected.{Selection, counted, refusals, refusals_to, selected}
use Rattle.bufr_select_engine.specs.Selected.{selected_to}

-- a writer whose failure is passed over took this text, or failed after a front of it
abbrev pub Takes : Writing → Writing → List ℕ → Type 0
Takes w w' text = WritesAll w w' text ⊎ ((written : ℕ) × FailsAfter written w w' text)

-- so it did with the refusals of inputs with these streams, and of the first of these frames of the next
abbrev pub TakesFirst : Selection → List (List ℕ) → List Found → Writing → Writing → Type 0
TakesFirst s streams frames w w' =
    (done : List Found) × (rest : List Found) × (frames ≡ done ++ rest)
    × Takes w w' (refusals_to s streams done)

-- what contracts see of the writers of rows and of refusals
pub record Writings : Type 0 where
  pub rows : Writing
  pub refusals : Writing

-- Reading ended at the reader of this number, counted from 1. The writers took what is printed and told of
-- all readers before it, and of the sure frames of what it gave, and nothing else.
abbrev pub EndsSelecting : Selection → (Reading → Type 0) → Input → List Reading → List Reading
    → Writings → Writings → Type 0
EndsSelecting s Ends (Number number) old new w w' =
    (streams : List (List ℕ)) × (read : List ℕ) × (number ≡ length streams + 1)
    × AreReadTo old new streams (λ r r'. Ends r' × HasGiven r r' read)
    × WritesAll w.rows w'.rows (selected_to s streams (sure read))
    × Takes w.refusals w'.refusals (refusals_to s streams (sure read))
EndsSelecting s Ends TableB old new w w' = ⊥
EndsSelecting s Ends TableD old new w w' = ⊥

-- Memory ran out. The writers took nothing; or whole lines of what is printed of the frames so far, and
-- what is told of the first of them.
abbrev pub RunsOut : Selection → List Reading → List Reading → Writings → Writings → Type 0
RunsOut s old new w w' =
    (w' ≡ w)
    ⊎ ((streams : List (List ℕ)) × (frames : List Found) × HasReached old new streams frames
    × WritesLines w.rows w'.rows (selected_to s streams frames)
    × TakesFirst s streams frames w.refusals w'.refusals)

-- What `run_select` returns and does, from readers and writers that work to what it leaves of them.
-- Without a fault the writers took all rows and all refusals. If a read failed or an input is endless,
-- they took those of the inputs before and of the sure frames. If the writer of rows failed, it took
-- exactly n octets, a front of the rows of the frames so far. If memory ran out, it took whole lines of
-- them. In both cases the other writer took the refusals of the first of these frames.
abbrev pub Selects : Selection → ℕ → List Reading → List Reading → Writings → Writings
    → Result Tally ToolFault → Type 0
Selects s reads readers readers' w w' (Ok tally) =
    (streams : List (List ℕ)) × WereReadOut readers readers' streams
    × WritesAll w.rows w'.rows (selected s streams)
    × Takes w.refusals w'.refusals (refusals s streams)
    × (tally ≡ counted s streams)
Selects s reads readers readers' w w' (Err (faults.ReadFailed name)) =
    EndsSelecting s HasFailed name readers readers' w w'
Selects s reads readers readers' w w' (Err (faults.EndlessInput name)) =
    EndsSelecting s (IsEndless reads) name readers readers' w w'
Selects s reads readers readers' w w' (Err (faults.WriteFailed written)) =
    (streams : List (List ℕ)) × (frames : List Found) × HasReached readers readers' streams frames
    × FailsAfter written w.rows w'.rows (selected_to s streams frames)
    × TakesFirst s streams frames w.refusals w'.refusals
Selects s reads readers readers' w w' (Err faults.OutOfMemory) = RunsOut s readers readers' w w'
Selects s reads readers readers' w w' (Err fault) = ⊥

-- if the writer failed, it took n octets: the first of all rows of the streams that the readers tell
abbrev pub WritesFront : Selection → List Reading → Writing → Writing → ToolFault → Type 0
WritesFront s readers w w' (faults.WriteFailed written) =
    (streams : List (List ℕ)) → AreTold readers streams
    → FailsAfter written w w' (selected s streams)
WritesFront s readers w w' fault = Unit {0}
