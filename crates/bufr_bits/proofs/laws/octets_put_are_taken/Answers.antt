use Rattle.bufr_bits.specs.OctetLaws.{octets_at-bits}
use Rattle.bufr_bits.proofs.laws.octets_put_are_taken.Goals as goal

pub returns : goal.returns
returns c = octets_at-bits
