-- A framer in words: the stream that it took in, the number of frames that it handed out, and the
-- octets that it holds.
use Rattle.std.specs.Prelude.{◌≡◌, ℕ, ◌+◌, ◌<◌, ◌≤◌, ◌⊎◌, Some, List, [], length, take, drop}
use Rattle.std.specs.Prelude.{slice_get}
use Rattle.std.specs.List.{AllByRecursion}
use Rattle.bufr_frame.specs.declared.frames.Found.{Found}
use Rattle.bufr_frame.specs.Framings.{Framing}
use Rattle.bufr_frame.specs.Starts.{bufr}
use Rattle.bufr_frame.specs.Sures.{IsOpenAt, IsSure}

-- fewer than seven octets are left at this place, and they begin as `BUFR`
pub record IsTailAt (stream : List ℕ) (place : ℕ) : Type 0 where
  pub inside : place < length stream
  pub short : length stream < place + 7
  pub mark : take 4 (drop place stream) ≡ take (length (drop place stream)) bufr

-- the frame after the first `out` begins at this place
pub record IsNextAt (frames : List Found) (out place : ℕ) : Type 0 where
  pub frame : Found
  pub next : slice_get frames out ≡ Some frame
  pub here : frame.place ≡ place

-- a framer holds octets from this place on: the next frame begins here, or one may come
abbrev pub IsHeldAt : List ℕ → List Found → ℕ → ℕ → Type 0
IsHeldAt stream frames out place =
    IsNextAt frames out place ⊎ (IsOpenAt stream place ⊎ IsTailAt stream place)

-- the place is at or after the end of each of the first `out` frames
abbrev pub IsAfter : List Found → ℕ → ℕ → Type 0
IsAfter frames out place = AllByRecursion (λ f. f.place + length f.bytes ≤ place) (take out frames)

-- the first such place after `out` frames
pub record IsFirstHeld (stream : List ℕ) (frames : List Found) (out place : ℕ) : Type 0 where
  pub after : IsAfter frames out place
  pub is : IsHeldAt stream frames out place
  pub first : (other : ℕ) → IsAfter frames out other → other < place
      → IsHeldAt stream frames out other → ⊥

-- the octets held are those from the first such place on, or none without one
abbrev pub AreHeld : List ℕ → List Found → ℕ → List ℕ → Type 0
AreHeld stream frames out held =
    ((place : ℕ) × IsFirstHeld stream frames out place × (held ≡ drop place stream))
    ⊎ (((place : ℕ) → IsAfter frames out place → IsHeldAt stream frames out place → ⊥)
    × (held ≡ []))

-- the framer has taken in this stream, handed out its first `out` sure frames, and holds the octets
-- that it must
pub record StandsFor (framer : Framing) (stream : List ℕ) (out : ℕ) : Type 0 where
  pub fed : framer.fed ≡ length stream
  pub frames : List Found
  pub are_sure : IsSure stream frames
  pub out_of_sure : out ≤ length frames
  pub held : AreHeld stream frames out framer.held
