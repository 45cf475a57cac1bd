-- What a selector does with the frames of an input (private contracts).
use Rattle.std.specs.Prelude.{◌≡◌, ℕ, ◌+◌, ◌≤◌, ◌^◌, List, [], ◌++◌, length, map}
use Rattle.std.specs.Prelude.{Bool, false, Result, Ok, Err}
use Rattle.std.specs.Int.{from_bool}
use Rattle.bufr_bits.specs.Devices.{Reading, Writing}
use Rattle.bufr_frame.specs.declared.frames.Found.{Found}
use Rattle.bufr_frame.specs.Streams.{cut, sure}
use Rattle.bufr_io.specs.declared.fault.Input.TheVariants.{Number}
use Rattle.bufr_io.specs.declared.fault.Tally.{Tally}
use Rattle.bufr_io.specs.declared.fault.ToolFault.{ToolFault}
use Rattle.bufr_io.specs.declared.fault.ToolFault.TheVariants as faults
use Rattle.bufr_io.specs.Engines.{WasReadOut, HasFailed, IsEndless, HasGiven, AreAllOf}
use Rattle.bufr_io.specs.Numbered.{frames_from}
use Rattle.bufr_io.specs.Reached.{GivesFrames}
use Rattle.bufr_io.specs.Readers.{WereReadOut}
use Rattle.bufr_select_rows.specs.Asks.{IsSetOf}
use Rattle.bufr_io.specs.HeldTexts.{HasPut, IsStop, Puts, PutsOrStops, StopsWriting}
use Rattle.bufr_select_engine.specs.Tells.{HasTold, Tells}
use Rattle.bufr_select_engine.specs.Selected.{Selection, frame_refusal, frame_refused, frame_rows, refused_of}
use Rattle.bufr_select_engine.specs.Selected.{counted, refusals, selected}
use Rattle.bufr_select_engine.specs.Selects.{Selects, Writings}
use Rattle.bufr_select_engine.specs.declared.frame_selector.FrameSelector.{FrameSelector}

-- ---- a selector

-- what is selected
abbrev pub selection_of : FrameSelector → Selection
selection_of p = record {
  pairs = p.pairs.items;
  columns = p.columns.now;
  each = p.picker.each;
}

-- the rows of frames of an input
abbrev pub rows_of : FrameSelector → List Found → List ℕ
rows_of p frames = frames_from (frame_rows (selection_of p) p.input) 1 frames

-- their refusals
abbrev pub refusals_of : FrameSelector → List Found → List ℕ
refusals_of p frames = frames_from (frame_refusal (selection_of p) p.input) 1 frames

-- each cell has its column, and the descriptors of all columns are asked for
pub record IsReady (p : FrameSelector) : Type 0 where
  pub cells : map (λ c. c.column) p.picker.cells.items ≡ p.columns.now
  pub covers : IsSetOf p.picker.asked p.picker.each p.columns.now

-- what is selected and the number of the input stay
pub record Keeps (p p' : FrameSelector) : Type 0 where
  pub selection : selection_of p' ≡ selection_of p
  pub input : p'.input ≡ p.input

-- the writers: that of rows works, and that of refusals works unless it is unheard
pub record AreHeard (p : FrameSelector) (w : Writings) : Type 0 where
  pub works : w.rows.failed ≡ false
  pub heard : w.refusals.failed ≡ p.unheard

-- ---- a frame

-- The rows and the refusal of a frame were put and told, and whether it is refused. Or that stopped.
abbrev pub TakesFrame : FrameSelector → Found → Writings → FrameSelector → Writings → Result Bool ToolFault
    → Type 0
TakesFrame p frame w p' w' (Ok refused) =
    Puts (frame_rows (selection_of p) p.input (p.frames + 1) frame) p.rows w.rows p'.rows w'.rows
    × Tells (frame_refusal (selection_of p) p.input (p.frames + 1) frame) p.unheard w.refusals
    p'.unheard w'.refusals
    × (from_bool refused ≡ frame_refused (selection_of p) frame)
    × IsReady p' × AreHeard p' w'
TakesFrame p frame w p' w' (Err fault) =
    PutsOrStops (frame_rows (selection_of p) p.input (p.frames + 1) frame) p.rows w.rows p'.rows
    w'.rows (Err fault)
    × (w'.refusals ≡ w.refusals) × (p'.unheard ≡ p.unheard)

-- so it is, and the frame counts
abbrev pub CountsFrame : FrameSelector → Found → Writings → FrameSelector → Writings
    → Result (Unit {0}) ToolFault → Type 0
CountsFrame p frame w p' w' (Ok done) =
    Puts (frame_rows (selection_of p) p.input (p.frames + 1) frame) p.rows w.rows p'.rows w'.rows
    × Tells (frame_refusal (selection_of p) p.input (p.frames + 1) frame) p.unheard w.refusals
    p'.unheard w'.refusals
    × (p'.refused ≡ p.refused + frame_refused (selection_of p) frame)
    × IsReady p' × AreHeard p' w' × (p'.frames ≡ p.frames + 1)
CountsFrame p frame w p' w' (Err fault) =
    PutsOrStops (frame_rows (selection_of p) p.input (p.frames + 1) frame) p.rows w.rows p'.rows
    w'.rows (Err fault)
    × (w'.refusals ≡ w.refusals) × (p'.unheard ≡ p.unheard)

-- ---- the frames of an input

-- since the first of these two states of a selector and its writers these frames of an input came, and
-- their rows and refusals were put
pub record HasSelected (first : FrameSelector) (begin : Writings) (p : FrameSelector) (now : Writings)
    (frames : List Found) : Type 0 where
  pub started : first.frames ≡ 0
  pub counts : p.frames ≡ first.frames + length frames
  pub keeps : Keeps first p
  pub frames_are : p.frames ≡ length frames
  pub refused_are : p.refused ≡ refused_of (selection_of first) frames
  pub ready : IsReady p
  pub heard : AreHeard p now
  pub rows : Puts (rows_of first frames) first.rows begin.rows p.rows now.rows
  pub told : Tells (refusals_of first frames) first.unheard begin.refusals p.unheard now.refusals

-- the refusals of the first of these frames were told
pub record TellsFirst (first : FrameSelector) (begin : Writings) (p : FrameSelector) (now : Writings)
    (frames : List Found) : Type 0 where
  pub done : List Found
  pub rest : List Found
  pub parted : frames ≡ done ++ rest
  pub told : Tells (refusals_of first done) first.unheard begin.refusals p.unheard now.refusals

-- selecting these frames stopped
pub record StopsSelecting (first : FrameSelector) (begin : Writings) (p : FrameSelector) (now : Writings)
    (frames : List Found) (fault : ToolFault) : Type 0 where
  pub stops : IsStop fault
  pub rows : (start : Writing) (before : List ℕ) → HasPut start before first.rows begin.rows
      → StopsWriting start (before ++ rows_of first frames) now.rows fault
  pub told : TellsFirst first begin p now frames

-- ---- an input

-- the rows of frames were put and their refusals told, and no row waits
pub record HasSelectedFrames (p p' : FrameSelector) (frames : List Found) (w w' : Writings) : Type 0 where
  pub rows : Puts (rows_of p frames) p.rows w.rows p'.rows w'.rows
  pub told : Tells (refusals_of p frames) p.unheard w.refusals p'.unheard w'.refusals
  pub held : p'.rows.held.items ≡ []

-- so it is with all frames of a stream, which count
pub record HasSelectedAll (p p' : FrameSelector) (stream : List ℕ) (w w' : Writings) : Type 0 where
  pub selected : HasSelectedFrames p p' (cut stream) w w'
  pub keeps : Keeps p p'
  pub ready : IsReady p'
  pub heard : AreHeard p' w'
  pub frames : p'.frames ≡ length (cut stream)
  pub refused : p'.refused ≡ refused_of (selection_of p) (cut stream)
  pub few : length (cut stream) ≤ 2 ^ 48

-- The input ended, and the writers took its rows and refusals. Or a read failed, or the input is endless,
-- and they took those of the sure frames. Or selecting the frames so far stopped.
abbrev pub SelectsInput : ℕ → FrameSelector → FrameSelector → Reading → Reading → Writings → Writings
    → Result (Unit {0}) ToolFault → Type 0
SelectsInput reads p p' reader reader' w w' (Ok done) =
    WasReadOut reader' × (stream : List ℕ) × AreAllOf reader stream
    × HasSelectedAll p p' stream w w'
SelectsInput reads p p' reader reader' w w' (Err (faults.ReadFailed name)) =
    (name ≡ Number p.input) × HasFailed reader' × (read : List ℕ) × HasGiven reader reader' read
    × HasSelectedFrames p p' (sure read) w w'
SelectsInput reads p p' reader reader' w w' (Err (faults.EndlessInput name)) =
    (name ≡ Number p.input) × IsEndless reads reader' × (read : List ℕ)
    × HasGiven reader reader' read × HasSelectedFrames p p' (sure read) w w'
SelectsInput reads p p' reader reader' w w' (Err fault) =
    (frames : List Found) × GivesFrames reader reader' frames
    × StopsSelecting p w p' w' frames fault

-- ---- all inputs

-- the writers took the rows and the refusals of the first inputs, which had these streams, and no row
-- waits
pub record HasSelectedInputs (s : Selection) (streams : List (List ℕ)) (p : FrameSelector)
    (w w' : Writings) : Type 0 where
  pub selection : selection_of p ≡ s
  pub ready : IsReady p
  pub heard : AreHeard p w'
  pub rows : HasPut w.rows (selected s streams) p.rows w'.rows
  pub told : HasTold w.refusals (refusals s streams) p.unheard w'.refusals
  pub held : p.rows.held.items ≡ []

-- all inputs ended, and the writers took their rows and refusals; or selecting them ended early
abbrev pub SelectsInputs : Selection → ℕ → List Reading → List Reading → Writings → Writings
    → FrameSelector → Result Tally ToolFault → Type 0
SelectsInputs s reads readers readers' w w' p (Ok tally) =
    (streams : List (List ℕ)) × WereReadOut readers readers' streams
    × HasSelectedInputs s streams p w w' × (tally ≡ counted s streams)
SelectsInputs s reads readers readers' w w' p (Err fault) =
    Selects s reads readers readers' w w' (Err fault)
