-- Taking in the frames of a stream, each as soon as it is sure (private contracts). `Taken` says
-- that the taker has taken in these frames, `HoldsNone` that it holds nothing of them back,
-- `Stopped` that it stopped with a fault after them.
use Rattle.std.specs.Prelude.{◌≡◌, ℕ, ◌*◌, ◌^◌, ◌≤◌, ◌<◌, Result, Ok, Err, List, ◌++◌, length, sum_by}
use Rattle.bufr_bits.specs.Devices.{Reading}
use Rattle.bufr_frame.specs.declared.frames.Found.{Found}
use Rattle.bufr_frame.specs.Framings.{Framing}
use Rattle.bufr_frame.specs.Streams.{cut, sure}
use Rattle.bufr_frame.specs.NextFrames.{HandedOut}
use Rattle.bufr_io.specs.declared.fault.Input.{Input}
use Rattle.bufr_io.specs.declared.fault.ToolFault.{ToolFault}
use Rattle.bufr_io.specs.declared.input.Pieces.{Pieces}
use Rattle.bufr_io.specs.Engines.{WasReadOut, HasGiven, AreAllOf}
use Rattle.bufr_io.specs.Inputs.{GoesOn, ReadsOn}
use Rattle.bufr_io.specs.Limits.{longest_piece}

-- a frame at a place, of these octets
abbrev pub frame_at : ℕ → List ℕ → Found
frame_at place octets = record { place = place; bytes = octets }

-- few frames, with few octets
pub record AreFew (frames : List Found) : Type 0 where
  pub count : length frames ≤ 2 ^ 48
  pub octets : sum_by (λ frame. length frame.bytes) frames ≤ 2 ^ 48

-- stops at one of these frames, or between two of them
pub record StopsAmong (Stopped : List Found → ToolFault → Type 0) (frames : List Found)
    (fault : ToolFault) : Type 0 where
  pub front : List Found
  pub rest : List Found
  pub parted : frames ≡ front ++ rest
  pub stopped : Stopped front fault

-- has taken in all sure frames of this stream
pub record HasSure (Taken : List Found → Type 0) (framer : Framing) (stream : List ℕ) : Type 0 where
  pub handed : HandedOut framer stream (sure stream)
  pub taken : Taken (sure stream)

-- takes in these frames and holds nothing back, or stops among them
abbrev pub TakesPiece : (List Found → Type 0) → Type 0 → (List Found → ToolFault → Type 0) → Framing
    → List ℕ → Result (Unit {0}) ToolFault → Type 0
TakesPiece Taken HoldsNone Stopped framer stream (Ok done) =
    HasSure Taken framer stream × HoldsNone
TakesPiece Taken HoldsNone Stopped framer stream (Err fault) =
    StopsAmong Stopped (sure stream) fault

-- Why a stream ends early: no read returned a piece after these octets, and the taker has their
-- sure frames and holds nothing back; or it stopped among the sure frames of the octets read; or
-- among all frames after the end.
pub data EndsEarly (Taken : List Found → Type 0) (HoldsNone : Type 0)
    (Stopped : List Found → ToolFault → Type 0) (name : Input) (reads : ℕ) (old new : Reading)
    (fault : ToolFault) : Type 0 where
  unread : (pieces : Pieces) (read : List ℕ) → ReadsOn name reads old new pieces read (Err fault)
      → Taken (sure read) → HoldsNone
      → EndsEarly Taken HoldsNone Stopped name reads old new fault
  at_piece : (read : List ℕ) (count : ℕ) → GoesOn old new read count
      → StopsAmong Stopped (sure read) fault
      → EndsEarly Taken HoldsNone Stopped name reads old new fault
  at_end : (stream : List ℕ) → WasReadOut new → AreAllOf old stream → HasGiven old new stream
      → StopsAmong Stopped (cut stream) fault
      → EndsEarly Taken HoldsNone Stopped name reads old new fault

-- reads a stream to its end, takes in all its frames and returns its length in octets; or ends
-- early
abbrev pub TakesStream : (List Found → Type 0) → Type 0 → (List Found → ToolFault → Type 0) → Input
    → ℕ → Reading → Reading → Result ℕ ToolFault → Type 0
TakesStream Taken HoldsNone Stopped name reads old new (Ok long) =
    WasReadOut new × (stream : List ℕ) × AreAllOf old stream × HasGiven old new stream
    × Taken (cut stream) × (long ≡ length stream) × (length stream < longest_piece * reads)
TakesStream Taken HoldsNone Stopped name reads old new (Err fault) =
    EndsEarly Taken HoldsNone Stopped name reads old new fault
