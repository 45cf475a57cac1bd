use Rattle.std.proofs.Common.{◌≡◌, ◌-◌, vec_len}
use Rattle.bufr_io.specs.Inputs.{HasRead}
use Rattle.bufr_io.specs.Limits.{longest_piece}
use Rattle.bufr_io.proofs.input.read_all.Given as goal

-- the octets are those of the pieces read so far
abbrev pub invariant-loop-octets : goal.invariant-loop-octets
invariant-loop-octets g l =
    (vec_len l.buffer ≡ longest_piece)
    × HasRead l.fn.name l.reads (g.S.Source.reading l.initial.reader)
    (g.S.Source.reading l.reader) l.pieces l.octets.items

abbrev pub decreases-loop-octets : goal.decreases-loop-octets
decreases-loop-octets g l = l.reads - l.pieces.made
