-- The frames of a stream, which of them are sure while it goes on, and what a framer holds: by
-- functions.
use Rattle.std.specs.Prelude.{◌≡◌, ℕ, zero, suc, ◌+◌, ◌-◌, ◌≤◌, Bool, true, false, List, [], ◌∷◌}
use Rattle.std.specs.Prelude.{length, take}
use Rattle.bufr_frame.specs.declared.frames.Found.{Found}
use Rattle.bufr_frame.specs.declared.places.Start.TheVariants.{Frame, Open, Other}
use Rattle.bufr_frame.specs.Framings.{Framing}
use Rattle.bufr_frame.specs.Starts.{start_of}

-- The frames from a place on, after `skip` octets of the frame before. If the stream goes on, those
-- up to the first open place outside frames.
abbrev pub frames_from : Bool → ℕ → ℕ → List ℕ → List Found
frames_from ended place skip [] = []
frames_from ended place (suc skip) (x ∷ xs) = frames_from ended (place + 1) skip xs
frames_from ended place zero (x ∷ xs) =
    elim (start_of (x ∷ xs)) [
      | Frame l ↦ record { place = place; bytes = take l (x ∷ xs) }
          ∷ frames_from ended (place + 1) (l - 1) xs
      | Open ↦ elim ended [ true ↦ frames_from ended (place + 1) 0 xs | false ↦ [] ]
      | Other ↦ frames_from ended (place + 1) 0 xs
    ]

-- the frames of an ended stream: the first, then the first that begins at or after its end, and so
-- on
abbrev pub cut : List ℕ → List Found
cut stream = frames_from true 0 0 stream

-- the frames that a stream has however it goes on
abbrev pub sure : List ℕ → List Found
sure stream = frames_from false 0 0 stream

-- the octets from the first place on with a frame or an open one, after `frames` frames and the
-- skipped octets
abbrev pub rest_from : ℕ → ℕ → List ℕ → List ℕ
rest_from frames skip [] = []
rest_from frames (suc skip) (x ∷ xs) = rest_from frames skip xs
rest_from frames zero (x ∷ xs) =
    elim (start_of (x ∷ xs)) [
      | Frame l ↦ elim frames [ zero ↦ x ∷ xs | suc more ↦ rest_from more (l - 1) xs ]
      | Open ↦ x ∷ xs
      | Other ↦ rest_from frames 0 xs
    ]

-- the framer has taken in this stream and handed out its first `out` sure frames, by functions;
-- `StandsFor` (Holdings) is the relation
pub record Stands (framer : Framing) (stream : List ℕ) (out : ℕ) : Type 0 where
  pub fed : framer.fed ≡ length stream
  pub out_of_sure : out ≤ length (sure stream)
  pub held : framer.held ≡ rest_from out 0 stream
