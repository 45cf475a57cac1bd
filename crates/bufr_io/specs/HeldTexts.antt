-- Texts of which a part waits.
use Rattle.std.specs.Prelude.{◌≡◌, ℕ, ◌+◌, false, List, [], ◌++◌, length, Result, Ok, Err}
use Rattle.bufr_bits.specs.Devices.{Writing}
use Rattle.bufr_io.specs.declared.fault.ToolFault.{ToolFault}
use Rattle.bufr_io.specs.declared.fault.ToolFault.TheVariants as faults
use Rattle.bufr_io.specs.Engines.{WritesAll, WritesAfter, FailsAfter}
use Rattle.bufr_io.specs.Lines.{AreWholeLines, WritesLines}
use Rattle.bufr_io.specs.declared.held_rows.HeldRows.{HeldRows}

-- since the writer was at `start`, it took this text but for the rows that wait; both are whole lines
pub record HasPut (start : Writing) (text : List ℕ) (r : HeldRows) (now : Writing) : Type 0 where
  pub front : List ℕ
  pub parted : text ≡ front ++ r.held.items
  pub front_whole : AreWholeLines front
  pub held_whole : AreWholeLines r.held.items
  pub taken : WritesAll start now front
  pub counted : r.written ≡ length front

-- so it is with a front of the text
pub record HasPutSome (start : Writing) (text : List ℕ) (r : HeldRows) (now : Writing) : Type 0 where
  pub front : List ℕ
  pub rest : List ℕ
  pub parted : text ≡ front ++ rest
  pub done : HasPut start front r now

-- putting a text stopped: the writer failed after a front of it, or memory ran out after a front
abbrev pub StopsPutting : Writing → List ℕ → HeldRows → Writing → ToolFault → Type 0
StopsPutting start text r now (faults.WriteFailed written) = FailsAfter written start now text
StopsPutting start text r now faults.OutOfMemory = HasPutSome start text r now
StopsPutting start text r now fault = ⊥

-- so it is when no row waits
abbrev pub StopsWriting : Writing → List ℕ → Writing → ToolFault → Type 0
StopsWriting start text now (faults.WriteFailed written) = FailsAfter written start now text
StopsWriting start text now faults.OutOfMemory = WritesLines start now text
StopsWriting start text now fault = ⊥

-- putting a text stops for want of memory, and then the writer works, or because the writer failed
abbrev pub IsWorkingAfter : ToolFault → Writing → Type 0
IsWorkingAfter faults.OutOfMemory now = now.failed ≡ false
IsWorkingAfter (faults.WriteFailed written) now = Unit {0}
IsWorkingAfter fault now = ⊥

-- so it is, whatever the writer
abbrev pub IsStop : ToolFault → Type 0
IsStop faults.OutOfMemory = Unit {0}
IsStop (faults.WriteFailed written) = Unit {0}
IsStop fault = ⊥

-- after any text this text was put
abbrev pub Puts : List ℕ → HeldRows → Writing → HeldRows → Writing → Type 0
Puts text r w r' w' = (start : Writing) (before : List ℕ) → HasPut start before r w
    → HasPut start (before ++ text) r' w'

-- so it was, or putting it stopped
abbrev pub PutsOrStops : List ℕ → HeldRows → Writing → HeldRows → Writing
    → Result (Unit {0}) ToolFault → Type 0
PutsOrStops text r w r' w' (Ok done) = Puts text r w r' w'
PutsOrStops text r w r' w' (Err fault) = IsWorkingAfter fault w'
    × ((start : Writing) (before : List ℕ) → HasPut start before r w
    → StopsPutting start (before ++ text) r' w' fault)

-- The writer took the rows that wait, and none waits. Or it failed after a front of them. Or a count of
-- octets was too large, and nothing changed.
abbrev pub WritesHeld : HeldRows → HeldRows → Writing → Writing → Result (Unit {0}) ToolFault → Type 0
WritesHeld r r' w w' (Ok done) = WritesAll w w' r.held.items × (r'.held.items ≡ [])
    × (r'.written ≡ r.written + length r.held.items)
WritesHeld r r' w w' (Err faults.OutOfMemory) =
    (w' ≡ w) × (r'.held.items ≡ r.held.items) × (r'.written ≡ r.written)
WritesHeld r r' w w' (Err fault) = WritesAfter r.written r.held.items w w' (Err fault)
