-- The frames of what readers gave that are read one after the other, up to some point.
use Rattle.std.specs.Prelude.{◌≡◌, ℕ, ◌⊎◌, Bool, true, false, List, []}
use Rattle.bufr_bits.specs.Devices.{Reading}
use Rattle.bufr_frame.specs.declared.frames.Found.{Found}
use Rattle.bufr_frame.specs.Streams.{cut, sure}
use Rattle.bufr_io.specs.Engines.{HasGiven, AreAllOf}
use Rattle.bufr_io.specs.Readers.{AreReadBefore, AreReadTo}

-- the frames of what a reader gave: the sure ones, or all at its end
abbrev pub frames_by : Bool → List ℕ → List Found
frames_by true read = cut read
frames_by false read = sure read

-- a reader works, and the octets that it gave have these frames; at its end these octets are all
abbrev pub GivesFrames : Reading → Reading → List Found → Type 0
GivesFrames r r' frames = (r'.failed ≡ false) × (read : List ℕ) × HasGiven r r' read
    × (r'.met_end ≡ true → AreAllOf r read) × (frames ≡ frames_by r'.met_end read)

-- The first readers had these streams and ended, and what the next gave has these frames. There are no
-- frames before the first read of the next.
abbrev pub HasReached : List Reading → List Reading → List (List ℕ) → List Found → Type 0
HasReached old new streams frames =
    (AreReadBefore old new streams × (frames ≡ []))
    ⊎ AreReadTo old new streams (λ r r'. GivesFrames r r' frames)
