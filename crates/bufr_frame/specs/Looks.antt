-- A look as contracts see it.
use Rattle.std.specs.Prelude.{List, []}
use Rattle.bufr_frame.specs.declared.frames.Found.{Found}
use Rattle.bufr_frame.specs.Framings.{Framing}

-- a look: the frames to hand out, and the framer after them
pub record LookView : Type 0 where
  pub frames : List Found
  pub next : Framing

-- a framer of an empty stream
abbrev pub new_framing : Framing
new_framing = record { fed = 0; held = [] }
