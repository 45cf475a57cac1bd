-- What the calls of a framer hand out, for each stream and number of frames out that the framer
-- `Stands` for; and what a loop of calls has handed out.
use Rattle.std.specs.Prelude.{◌≡◌, ℕ, ◌+◌, ◌-◌, Some, List, ◌++◌, length, take, drop, slice_get}
use Rattle.bufr_frame.specs.declared.frames.Found.{Found}
use Rattle.bufr_frame.specs.Framings.{Framing}
use Rattle.bufr_frame.specs.Streams.{sure, cut, Stands}

-- the octets taken in: the piece without the rest
abbrev pub taken_in : List ℕ → List ℕ → List ℕ
taken_in piece rest = take (length piece - length rest) piece

-- the piece is the octets taken in, and the rest
abbrev pub IsRestOf : List ℕ → List ℕ → Type 0
IsRestOf piece rest = piece ≡ taken_in piece rest ++ rest

-- The frame is the next sure one of the stream with the octets taken in.
abbrev pub IsNextFrame : Framing → List ℕ → Found → Type 0
IsNextFrame framer taken frame =
    (stream : List ℕ) (out : ℕ) → Stands framer stream out
    → slice_get (sure (stream ++ taken)) out ≡ Some frame

-- The stream with the octets taken in has no further sure frame.
abbrev pub IsNoFrame : Framing → List ℕ → Type 0
IsNoFrame framer taken =
    (stream : List ℕ) (out : ℕ) → Stands framer stream out → length (sure (stream ++ taken)) ≡ out

-- The framer after a call `Stands` for the stream with the octets taken in, with `more` further
-- frames out.
abbrev pub StandsAfter : Framing → Framing → List ℕ → ℕ → Type 0
StandsAfter before after taken more =
    (stream : List ℕ) (out : ℕ) → Stands before stream out
    → Stands after (stream ++ taken) (out + more)

-- These are the sure frames, not yet out, of the stream with the piece.
abbrev pub AreSureNext : Framing → List ℕ → List Found → Type 0
AreSureNext framer piece frames =
    (stream : List ℕ) (out : ℕ) → Stands framer stream out
    → frames ≡ drop out (sure (stream ++ piece))

-- These are the frames of the cut that are not yet out.
abbrev pub AreLast : Framing → List Found → Type 0
AreLast framer frames =
    (stream : List ℕ) (out : ℕ) → Stands framer stream out → frames ≡ drop out (cut stream)

-- The framer after a call `Stands` for the stream with the piece, with all sure frames out.
abbrev pub StandsWithAll : Framing → Framing → List ℕ → Type 0
StandsWithAll before after piece =
    (stream : List ℕ) (out : ℕ) → Stands before stream out
    → Stands after (stream ++ piece) (length (sure (stream ++ piece)))

-- The framer took in this stream, and these frames are out: its first sure ones.
pub record HandedOut (framer : Framing) (stream : List ℕ) (frames : List Found) : Type 0 where
  pub stands : Stands framer stream (length frames)
  pub first : frames ≡ take (length frames) (sure stream)

-- Between calls of `take_next`: this is the rest of the stream, and these frames are out, the first
-- sure ones of the octets taken in.
pub record IsBetweenCalls (framer : Framing) (stream rest : List ℕ) (frames : List Found) : Type 0 where
  pub taken : List ℕ
  pub parted : stream ≡ taken ++ rest
  pub handed : HandedOut framer taken frames
