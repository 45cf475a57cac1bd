use Rattle.bufr_bits.specs.BitLaws.{number_at-bin}
use Rattle.bufr_bits.proofs.laws.number_put_is_taken.Goals as goal

pub returns : goal.returns
returns c = number_at-bin
