use Rattle.std.proofs.Common.{◌∙◌, arith}
use Rattle.bufr_bits.proofs.BitLists.{number_of_four}
use Rattle.bufr_bits.proofs.field.half_word_at.Goals as goal

pub returns : goal.returns
returns c =
    c.from_be_bytes.ensures
    ∙ number_of_four c.args.octets.now c.args.first c.requires
    (λ j. omega (arith, c.type_inv.octets j))
