-- A column has a value for each of its subsets.
use Rattle.std.proofs.Common.{◌∙◌, refl, subst, sym}
use Rattle.std.specs.Prelude.{IsSome}
use Rattle.bufr_bits.specs.BitLaws.{some_is}
use Rattle.bufr_data.proofs.CompressedFacts.Values.{value_there, form_there}
use Rattle.bufr_data.proofs.compressed.index.value.Goals as goal

pub unwrap-requires : goal.unwrap-requires
unwrap-requires c =
    let at = c.at-reader.ensures in
    let is = rw at at c.in_ok-value.ensures in
    subst IsSome (sym (is ∙ value_there c.args.octets.now c.args.subsets c.args.index c.args.place
    c.requires.stands c.requires.inside)) refl

pub returns-clause-is : goal.returns-clause-is
returns-clause-is c =
    let at = c.at-reader.ensures in
    let is = rw at at c.in_ok-value.ensures in
    some_is _ _
    (sym c.unwrap.ensures ∙ is
    ∙ value_there c.args.octets.now c.args.subsets c.args.index c.args.place c.requires.stands
    c.requires.inside)

pub returns-in-Some-clause-formed : goal.returns-in-Some-clause-formed
returns-in-Some-clause-formed c =
    form_there c.args.octets.now c.args.subsets c.args.index c.args.place _ c.requires.stands
    c.requires.inside c.in-Some.ensures

pub returns-clause-formed : goal.returns-clause-formed
returns-clause-formed c =
    let at = c.at-reader.ensures in
    let is = rw at at c.in_ok-value.ensures in
    form_there c.args.octets.now c.args.subsets c.args.index c.args.place _ c.requires.stands
    c.requires.inside
    (some_is _ _
    (sym c.unwrap.ensures ∙ is
    ∙ value_there c.args.octets.now c.args.subsets c.args.index c.args.place c.requires.stands
    c.requires.inside))
