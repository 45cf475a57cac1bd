-- The sure frames of a stream that goes on, in words.
use Rattle.std.specs.Prelude.{◌≡◌, ℕ, ◌+◌, ◌-◌, ◌<◌, ◌≤◌, Some, List, [], ◌∷◌, ◌++◌, length, take}
use Rattle.std.specs.Prelude.{drop}
use Rattle.std.specs.List.{AllByRecursion}
use Rattle.bufr_frame.specs.declared.frames.Found.{Found}
use Rattle.bufr_frame.specs.declared.places.TheConstants.{SHORTEST}
use Rattle.bufr_frame.specs.Starts.{bufr, announced}
use Rattle.bufr_frame.specs.Cuts.{IsInOne, IsCut}

-- The place is open: `BUFR`, a length of 12 or more in three octets, more than the stream has from
-- here, and only `7` as far as the last four octets are there. A frame may still come.
pub record IsOpenAt (stream : List ℕ) (place : ℕ) : Type 0 where
  pub l : ℕ
  pub mark : take 4 (drop place stream) ≡ bufr
  pub told : announced (drop place stream) ≡ Some l
  pub long : SHORTEST ≤ l
  pub short : length stream < place + l
  pub end : AllByRecursion (λ x. x ≡ 55) (drop (place + l - 4) stream)

-- no frame has before it an open place outside the frames before it
abbrev pub AreClear : List ℕ → List Found → List Found → Type 0
AreClear stream before [] = Unit {0}
AreClear stream before (f ∷ fs) =
    ((place : ℕ) → place < f.place → IsOpenAt stream place → IsInOne place before)
    × AreClear stream (before ++ f ∷ []) fs

-- the first frames of the cut, none with an open place before it, outside earlier frames
pub record IsClear (stream : List ℕ) (frames : List Found) : Type 0 where
  pub rest : List Found
  pub first : IsCut stream (frames ++ rest)
  pub clear : AreClear stream [] frames

-- the longest such list: the frames that a stream has however it goes on
pub record IsSure (stream : List ℕ) (frames : List Found) : Type 0 where
  pub clear : IsClear stream frames
  pub longest : (others : List Found) → IsClear stream others → length others ≤ length frames
