-- The texts of the frames of inputs that are read one after the other: `text input message frame` is the
-- text of a frame that has this number in the input of this number.
use Rattle.std.specs.Prelude.{ℕ, ◌+◌, List, [], ◌∷◌, ◌++◌, length}
use Rattle.bufr_frame.specs.declared.frames.Found.{Found}
use Rattle.bufr_frame.specs.Streams.{cut}

-- the texts of frames, from the frame of this number on
abbrev pub frames_from : (ℕ → Found → List ℕ) → ℕ → List Found → List ℕ
frames_from text message [] = []
frames_from text message (frame ∷ frames) =
    text message frame ++ frames_from text (message + 1) frames

-- the texts of inputs with these streams, from the input of this number on
abbrev pub inputs_from : (ℕ → ℕ → Found → List ℕ) → ℕ → List (List ℕ) → List ℕ
inputs_from text input [] = []
inputs_from text input (stream ∷ streams) =
    frames_from (text input) 1 (cut stream) ++ inputs_from text (input + 1) streams

-- the texts of inputs with these streams, and of the first frames of the next input
abbrev pub inputs_to : (ℕ → ℕ → Found → List ℕ) → List (List ℕ) → List Found → List ℕ
inputs_to text streams frames =
    inputs_from text 1 streams ++ frames_from (text (length streams + 1)) 1 frames
