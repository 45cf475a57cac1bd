use Rattle.std.proofs.Common.{sym}
use Rattle.bufr_bits.proofs.Fronts.{length-left}
use Rattle.bufr_bits.proofs.bit_reader.BitReader.left.Goals as goal

pub returns-clause-bits : goal.returns-clause-bits
returns-clause-bits c =
    rw (← c.self.view_is) (sym (length-left c.self.inside.octets.now c.self.inside.place))
