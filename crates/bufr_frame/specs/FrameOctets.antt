-- The octets of a frame, lent or its own.
use Rattle.std.specs.Prelude.{ℕ, List}
use Rattle.bufr_frame.specs.declared.lent_frame.FrameOctets.{FrameOctets}
use Rattle.bufr_frame.specs.declared.lent_frame.FrameOctets.TheVariants.{Lent, Own}

-- the octets of the piece, or the frame's own
abbrev pub octets_of : FrameOctets → List ℕ
octets_of (Lent octets) = octets.now
octets_of (Own octets) = octets
