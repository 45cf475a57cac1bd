-- A column has a number for each of its subsets.
use Rattle.std.proofs.Common.{◌∙◌, ap, sym}
use Rattle.std.specs.Prelude.{option_map}
use Rattle.bufr_bits.specs.BitLaws.{some_is}
use Rattle.bufr_fields.specs.declared.field.Raw.TheVariants.{Number}
use Rattle.bufr_data.proofs.CompressedFacts.Values.{number_is, value_there}
use Rattle.bufr_data.proofs.compressed.index.number_there.Goals as goal

pub number_under-number-requires : goal.number_under-number-requires
number_under-number-requires c = rw c.in-Some.is at c.requires.stands.2

pub unwrap-requires : goal.unwrap-requires
unwrap-requires c =
    number_is _ _ (c.number_under-number.ensures
    ∙ value_there c.args.octets.now c.args.subsets c.args.index c.args.place c.requires.stands
    c.requires.inside)

pub returns-in-Some : goal.returns-in-Some
returns-in-Some c =
    some_is _ _ (ap (option_map (λ n. Number n)) (sym c.unwrap.ensures)
    ∙ c.number_under-number.ensures
    ∙ value_there c.args.octets.now c.args.subsets c.args.index c.args.place c.requires.stands
    c.requires.inside)
