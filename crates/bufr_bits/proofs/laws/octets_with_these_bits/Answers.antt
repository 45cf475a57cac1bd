use Rattle.bufr_bits.specs.OctetLaws.{bits_same}
use Rattle.bufr_bits.proofs.laws.octets_with_these_bits.Goals as goal

pub returns : goal.returns
returns c = bits_same
