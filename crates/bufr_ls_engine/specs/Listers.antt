-- What a writer of rows does with the frames of an input (private contracts).
use Rattle.std.specs.Prelude.{◌≡◌, ℕ, ◌+◌, ◌≤◌, ◌^◌, ◌⊎◌, List, [], ◌++◌, length}
use Rattle.std.specs.Prelude.{Result, Ok, Err}
use Rattle.bufr_bits.specs.Devices.{Reading, Writing}
use Rattle.bufr_frame.specs.declared.frames.Found.{Found}
use Rattle.bufr_frame.specs.Streams.{cut, sure}
use Rattle.bufr_io.specs.declared.fault.Input.TheVariants.{Number}
use Rattle.bufr_io.specs.declared.fault.ToolFault.{ToolFault}
use Rattle.bufr_io.specs.declared.fault.ToolFault.TheVariants as faults
use Rattle.bufr_io.specs.Engines.{WasReadOut, HasFailed, IsEndless, HasGiven, AreAllOf}
use Rattle.bufr_io.specs.Engines.{WritesAll, WritesAfter}
use Rattle.bufr_io.specs.declared.fault.Tally.{Tally}
use Rattle.bufr_io.specs.Numbered.{frames_from}
use Rattle.bufr_io.specs.Reached.{GivesFrames}
use Rattle.bufr_ls_engine.specs.Lists.{Lists}
use Rattle.bufr_io.specs.Readers.{WereReadOut}
use Rattle.bufr_ls_engine.specs.Rows.{counted, header, listed_heads, row, rows}
use Rattle.bufr_ls_engine.specs.Rows.{frame_refused, refused_of}
use Rattle.bufr_ls_engine.specs.declared.column.Column.{Column}
use Rattle.bufr_ls_engine.specs.declared.lister.Lister.{Lister}

-- ---- rows that wait

-- the columns, the number of the input and the counts of its frames stay
pub record Keeps (p p' : Lister) : Type 0 where
  pub columns : p'.columns.now ≡ p.columns.now
  pub input : p'.input ≡ p.input
  pub frames : p'.frames ≡ p.frames
  pub refused : p'.refused ≡ p.refused

-- so do the rows that wait and the count of octets
pub record IsUnchanged (p p' : Lister) : Type 0 where
  pub keeps : Keeps p p'
  pub held : p'.rows.held.items ≡ p.rows.held.items
  pub written : p'.rows.written ≡ p.rows.written

-- The writer took the header line, and no row waits. Or it failed after a front of the line. Or memory
-- ran out, and it took nothing.
abbrev pub WritesHeader : Lister → Lister → Writing → Writing → Result (Unit {0}) ToolFault → Type 0
WritesHeader p p' writer writer' (Ok done) =
    WritesAll writer writer' (header p.columns.now) × (p'.rows.held.items ≡ [])
    × (p'.rows.written ≡ p.rows.written + length (header p.columns.now))
WritesHeader p p' writer writer' (Err faults.OutOfMemory) = writer' ≡ writer
WritesHeader p p' writer writer' (Err fault) =
    WritesAfter p.rows.written (header p.columns.now) writer writer' (Err fault)

-- the row of a frame waits after the others, and the frame counts
pub record HoldsRow (p p' : Lister) (frame : Found) : Type 0 where
  pub held : p'.rows.held.items ≡ p.rows.held.items ++ row p.columns.now p.input (p.frames + 1) frame
  pub frames : p'.frames ≡ p.frames + 1
  pub refused : p'.refused ≡ p.refused + frame_refused frame
  pub columns : p'.columns.now ≡ p.columns.now
  pub input : p'.input ≡ p.input
  pub written : p'.rows.written ≡ p.rows.written

-- after want of memory the writer took the rows, or nothing; or it failed then
abbrev pub Stops : Lister → Writing → Writing → ToolFault → Type 0
Stops p writer writer' faults.OutOfMemory =
    WritesAll writer writer' p.rows.held.items ⊎ (writer' ≡ writer)
Stops p writer writer' fault = WritesAfter p.rows.written p.rows.held.items writer writer' (Err fault)

-- ---- the frames of an input

-- Since the first of these two states of a lister and its writer these frames of an input came. The
-- writer took the rows of the first of them, and the rows of the others wait.
pub record HasListed (first : Lister) (begin : Writing) (p : Lister) (now : Writing)
    (frames : List Found) : Type 0 where
  pub started : first.frames ≡ 0
  pub counts : p.frames ≡ first.frames + length frames
  pub columns_are : p.columns.now ≡ first.columns.now
  pub input_is : p.input ≡ first.input
  pub frames_are : p.frames ≡ length frames
  pub refused_are : p.refused ≡ refused_of frames
  pub done : List Found
  pub waiting : List Found
  pub parted : frames ≡ done ++ waiting
  pub written : WritesAll begin now (rows first.columns.now first.input done)
  pub held : p.rows.held.items
      ≡ frames_from (row first.columns.now first.input) (1 + length done) waiting
  pub counted : p.rows.written ≡ first.rows.written + length (rows first.columns.now first.input done)

-- the writer took the rows of the first of these frames, and nothing else
pub record WritesRows (columns : List Column) (input : ℕ) (frames : List Found)
    (writer writer' : Writing) : Type 0 where
  pub done : List Found
  pub rest : List Found
  pub parted : frames ≡ done ++ rest
  pub written : WritesAll writer writer' (rows columns input done)

-- Listing frames stopped: the writer failed after a front of their rows; or memory ran out after the rows
-- of the first of them.
abbrev pub StopsListing : List Column → ℕ → ℕ → List Found → Writing → Writing → ToolFault → Type 0
StopsListing columns input before frames writer writer' faults.OutOfMemory =
    WritesRows columns input frames writer writer'
StopsListing columns input before frames writer writer' fault =
    WritesAfter before (rows columns input frames) writer writer' (Err fault)

-- ---- an input

-- the writer took the rows of all frames of a stream, which count, and no row waits
pub record HasListedAll (p p' : Lister) (stream : List ℕ) (writer writer' : Writing) : Type 0 where
  pub written : WritesAll writer writer' (rows p.columns.now p.input (cut stream))
  pub counted : p'.rows.written ≡ p.rows.written + length (rows p.columns.now p.input (cut stream))
  pub held : p'.rows.held.items ≡ []
  pub columns : p'.columns.now ≡ p.columns.now
  pub frames : p'.frames ≡ length (cut stream)
  pub refused : p'.refused ≡ refused_of (cut stream)
  pub few : length (cut stream) ≤ 2 ^ 48

-- The input ended, and the writer took its rows. Or a read failed, or the input is endless, and the
-- writer took the rows of the sure frames. Or the writer failed after a front of the rows of the frames
-- so far. Or memory ran out, and the writer took the first of these rows.
abbrev pub ListsInput : ℕ → Lister → Lister → Reading → Reading → Writing → Writing
    → Result (Unit {0}) ToolFault → Type 0
ListsInput reads p p' reader reader' writer writer' (Ok done) =
    WasReadOut reader' × (stream : List ℕ) × AreAllOf reader stream
    × HasListedAll p p' stream writer writer'
ListsInput reads p p' reader reader' writer writer' (Err (faults.ReadFailed name)) =
    (name ≡ Number p.input) × HasFailed reader' × (read : List ℕ) × HasGiven reader reader' read
    × WritesAll writer writer' (rows p.columns.now p.input (sure read))
ListsInput reads p p' reader reader' writer writer' (Err (faults.EndlessInput name)) =
    (name ≡ Number p.input) × IsEndless reads reader' × (read : List ℕ)
    × HasGiven reader reader' read
    × WritesAll writer writer' (rows p.columns.now p.input (sure read))
ListsInput reads p p' reader reader' writer writer' (Err fault) =
    (frames : List Found) × GivesFrames reader reader' frames
    × StopsListing p.columns.now p.input p.rows.written frames writer writer' fault

-- ---- all inputs

-- the writer took the header line and the rows of the first inputs, which had these streams, and no row
-- waits
pub record HasListedInputs (columns : List Column) (streams : List (List ℕ)) (p : Lister)
    (writer writer' : Writing) : Type 0 where
  pub columns_are : p.columns.now ≡ columns
  pub written : WritesAll writer writer' (listed_heads columns streams)
  pub counted : p.rows.written ≡ length (listed_heads columns streams)
  pub held : p.rows.held.items ≡ []

-- all inputs ended, and the writer took their rows; or listing them ended early
abbrev pub ListsInputs : List Column → ℕ → List Reading → List Reading → Writing → Writing → Lister
    → Result Tally ToolFault → Type 0
ListsInputs columns reads readers readers' writer writer' p (Ok tally) =
    (streams : List (List ℕ)) × WereReadOut readers readers' streams
    × HasListedInputs columns streams p writer writer' × (tally ≡ counted streams)
ListsInputs columns reads readers readers' writer writer' p (Err fault) =
    Lists columns reads readers readers' writer writer' (Err fault)
