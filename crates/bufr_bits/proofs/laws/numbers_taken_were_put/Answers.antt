use Rattle.std.proofs.Common.{◌^◌, ◌<◌}
use Rattle.std.proofs.lemmas.List.Elements.{All-from_recursion}
use Rattle.bufr_bits.specs.NumberLaws.{numbers_at_found}
use Rattle.bufr_bits.proofs.laws.numbers_taken_were_put.Goals as goal

pub returns : goal.returns
returns c n width xs text rest e =
    let found = numbers_at_found n width text (xs, rest) e in
    (found.2, found.0, All-from_recursion (λ x. x < 2 ^ width) xs found.1)
