use Rattle.std.proofs.Common.{refl, ◌∙◌, ◌^◌, length}
use Rattle.bufr_bits.specs.BitLaws.{length-bin, number-bin, small_mod, bin-number}
use Rattle.bufr_bits.proofs.laws.field_of_a_number.Goals as goal

pub returns-clause-width : goal.returns-clause-width
returns-clause-width c = length-bin

pub returns-clause-spells : goal.returns-clause-spells
returns-clause-spells c width n small = number-bin width n ∙ small_mod n (2 ^ width) small

pub returns-clause-only : goal.returns-clause-only
returns-clause-only c field = bin-number (length field) field refl
