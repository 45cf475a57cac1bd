-- How far a call of `take_next` comes in a piece: what it passes, why it stops, and what it hands
-- out and holds.
use Rattle.std.specs.Prelude.{◌≡◌, ℕ, ◌+◌, ◌<◌, ◌≤◌, ◌-◌, false, Option, Some, None, List, []}
use Rattle.std.specs.Prelude.{◌++◌, length, take, drop, slice_get}
use Rattle.bufr_frame.specs.declared.places.TheConstants.{LONGEST}
use Rattle.bufr_frame.specs.declared.frames.Found.{Found}
use Rattle.bufr_frame.specs.declared.places.Start.TheVariants.{Frame, Open, Other}
use Rattle.bufr_frame.specs.declared.reaching.Stop.{Stop}
use Rattle.bufr_frame.specs.declared.reaching.Stop.TheVariants.{Held, Piece, Nowhere}
use Rattle.bufr_frame.specs.declared.reaching.More.{More}
use Rattle.bufr_frame.specs.declared.reaching.More.TheVariants.{InRest, Octets}
use Rattle.bufr_frame.specs.declared.reaching.Reached.{Reached}
use Rattle.bufr_frame.specs.declared.reaching.Handed.{Handed}
use Rattle.bufr_frame.specs.Starts.{agrees, bufr, start_of}
use Rattle.bufr_frame.specs.Streams.{frames_from, rest_from}

-- the second list begins with the first
abbrev pub Extends : List ℕ → List ℕ → Type 0
Extends before after = (more : List ℕ) × (after ≡ before ++ more)

-- the octets held are the end of all these, and no frame begins before them, whatever follows
pub record IsPassedTo (all held : List ℕ) : Type 0 where
  pub n : ℕ
  pub within : n ≤ length all
  pub rest : held ≡ drop n all
  pub others : (k : ℕ) → k < n → start_of (drop k all) ≡ Other

-- nothing is held, and a frame of length `l` begins after `skip` octets of the rest, none of which
-- begins as `BUFR`
pub record StandsInPiece (held rest : List ℕ) (skip l : ℕ) : Type 0 where
  pub nothing : held ≡ []
  pub within : skip ≤ length rest
  pub others : (k : ℕ) → k < skip → agrees (drop k rest) bufr ≡ false
  pub frame : start_of (drop skip rest) ≡ Frame l

-- nothing is left of the piece, and the octets held are open
pub record StopsNowhere (held rest : List ℕ) : Type 0 where
  pub nothing : rest ≡ []
  pub waits : start_of held ≡ Open

-- why the call stops, by the octets held and the rest of the piece
abbrev pub StopsAt : List ℕ → List ℕ → Stop → Type 0
StopsAt held rest (Held l) = start_of held ≡ Frame l
StopsAt held rest (Piece skip l) = StandsInPiece held rest skip l
StopsAt held rest Nowhere = StopsNowhere held rest

-- the call takes in `n` octets of the rest, and keeps those of them that it holds
pub record KeepsPart (held before after rest : List ℕ) (n : ℕ) : Type 0 where
  pub some : 1 ≤ n
  pub within : n ≤ length rest
  pub kept : List ℕ
  pub appended : after ≡ before ++ kept
  pub short : length held + length kept ≤ LONGEST
  pub passed : IsPassedTo (held ++ take n rest) (held ++ kept)

-- a step into the rest: a frame there, if nothing is held, or octets taken in
abbrev pub KeepsMore : List ℕ → List ℕ → List ℕ → List ℕ → More → Type 0
KeepsMore held before after rest (InRest skip l) = (after ≡ before) × StandsInPiece held rest skip l
KeepsMore held before after rest (Octets n) = KeepsPart held before after rest n

-- of the octets held and the piece: what the call takes in and passes, and where it stops
pub record Reaches (held kept piece : List ℕ) (reached : Reached) : Type 0 where
  pub within : reached.from ≤ length kept
  pub taken : reached.taken ≤ length piece
  pub short : length (drop reached.from kept) ≤ LONGEST
  pub passed : IsPassedTo (held ++ take reached.taken piece) (drop reached.from kept)
  pub stops : StopsAt (drop reached.from kept) (drop reached.taken piece) reached.stop

-- this is the first sure frame of all octets from a place on, and these are held after it
pub record HandsOverFrame (place : ℕ) (all held : List ℕ) (frame : Found) : Type 0 where
  pub next : slice_get (frames_from false place 0 all) 0 ≡ Some frame
  pub held_is : held ≡ rest_from 1 0 all

-- no frame of all octets from a place on is sure, and these are held
pub record HandsOverNone (place : ℕ) (all held : List ℕ) : Type 0 where
  pub none : frames_from false place 0 all ≡ []
  pub held_is : held ≡ rest_from 0 0 all

-- a frame handed out and what is held then, or no frame
abbrev pub TakesOneOrNone : Option Found → ℕ → List ℕ → List ℕ → Type 0
TakesOneOrNone (Some frame) place all held = HandsOverFrame place all held frame
TakesOneOrNone None place all held = HandsOverNone place all held

-- after `fed` octets of the stream, from the octets held and the piece: what the call takes in,
-- hands out and keeps. Without a frame it takes in the whole piece
pub record HandsOver (fed : ℕ) (held kept piece : List ℕ) (taking : Handed) : Type 0 where
  pub within : taking.from ≤ length kept
  pub half : taking.from ≤ length (drop taking.from kept)
  pub short : length (drop taking.from kept) ≤ LONGEST
  pub taken : taking.taken ≤ length piece
  pub all : taking.found ≡ None → taking.taken ≡ length piece
  pub found : TakesOneOrNone taking.found (fed - length held) (held ++ take taking.taken piece)
      (drop taking.from kept)
