-- The frames of a stream, and its cut, the one list of them taken from the left.
use Rattle.std.specs.Prelude.{◌≡◌, ℕ, ◌+◌, ◌-◌, ◌<◌, ◌≤◌, ◌⊎◌, Some, List, [], ◌∷◌, length, take}
use Rattle.std.specs.Prelude.{drop}
use Rattle.std.specs.List.{AllByRecursion, flat_map}
use Rattle.bufr_frame.specs.declared.frames.Found.{Found}
use Rattle.bufr_frame.specs.declared.places.TheConstants.{SHORTEST}
use Rattle.bufr_frame.specs.Starts.{bufr, sevens, announced}

-- A frame of length `l` begins at this place: `BUFR`, the length in three octets, at least 12, all
-- octets of that length, and `7777` at the end (FM 94 BUFR, sections 0 and 5).
pub record IsFrameAt (stream : List ℕ) (place l : ℕ) : Type 0 where
  pub mark : take 4 (drop place stream) ≡ bufr
  pub told : announced (drop place stream) ≡ Some l
  pub long : SHORTEST ≤ l
  pub whole : place + l ≤ length stream
  pub end : take 4 (drop (l - 4) (drop place stream)) ≡ sevens

-- the frame has the octets at its place
pub record IsFrameOf (stream : List ℕ) (frame : Found) : Type 0 where
  pub stands : IsFrameAt stream frame.place (length frame.bytes)
  pub octets : frame.bytes ≡ take (length frame.bytes) (drop frame.place stream)

-- each frame ends before the next begins
abbrev pub AreApart : List Found → Type 0
AreApart [] = Unit {0}
AreApart (f ∷ fs) = AllByRecursion (λ g. f.place + length f.bytes ≤ g.place) fs × AreApart fs

-- the place is inside one of the frames
abbrev pub IsInOne : ℕ → List Found → Type 0
IsInOne place [] = ⊥
IsInOne place (f ∷ fs) = ((f.place ≤ place) × (place < f.place + length f.bytes)) ⊎ IsInOne place fs

-- The cut of a stream, taken from the left: its frames in order and apart, such that each frame of
-- the stream begins inside one of them.
pub record IsCut (stream : List ℕ) (frames : List Found) : Type 0 where
  pub each : AllByRecursion (IsFrameOf stream) frames
  pub apart : AreApart frames
  pub covers : (place l : ℕ) → IsFrameAt stream place l → IsInOne place frames

-- octets that are one frame, from the first to the last
abbrev pub IsOneFrame : List ℕ → Type 0
IsOneFrame octets = IsFrameAt octets 0 (length octets)

-- lists of octets as frames, one after another from a place on
abbrev pub frames_at : ℕ → List (List ℕ) → List Found
frames_at place [] = []
frames_at place (b ∷ bs) = record { place = place; bytes = b } ∷ frames_at (place + length b) bs

-- lists of octets, joined
abbrev pub joined : List (List ℕ) → List ℕ
joined lists = flat_map (λ octets. octets) lists
