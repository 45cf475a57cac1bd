use Rattle.bufr_bits.specs.BitLaws.{number_at_is}
use Rattle.bufr_bits.proofs.laws.number_taken_was_put.Goals as goal

pub returns : goal.returns
returns c = number_at_is
