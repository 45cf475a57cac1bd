use Rattle.bufr_bits.specs.OctetLaws.{octets_at_is}
use Rattle.bufr_bits.proofs.laws.octets_taken_were_put.Goals as goal

pub returns : goal.returns
returns c = octets_at_is
