use Rattle.std.proofs.Common.{◌^◌, ◌<◌, length, refl}
use Rattle.std.proofs.lemmas.List.Elements.{recursion_from_All}
use Rattle.bufr_bits.specs.NumberLaws.{numbers_at_again}
use Rattle.bufr_bits.proofs.laws.numbers_put_are_taken.Goals as goal

pub returns : goal.returns
returns c width xs rest all =
    numbers_at_again width (length xs) xs rest refl (recursion_from_All (λ x. x < 2 ^ width) xs all)
