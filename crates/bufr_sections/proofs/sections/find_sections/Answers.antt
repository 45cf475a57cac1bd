use Rattle.std.proofs.Common.{◌∙◌, arith, rules, sym}
use Rattle.std.proofs.lemmas.Grind.{common_steps}
use Rattle.bufr_sections.proofs.HeadFacts.{sections_found}
use Rattle.bufr_sections.proofs.sections.find_sections.Goals as goal

pub returns : goal.returns
returns c =
    let one = c.in_ok-one in
    let three = c.in_ok-three in
    let four = c.in_ok-four in
    sym (sections_found c.args.octets.now c.in_ok-layout.room.now one.one.now one.room.now
    c.in_ok-section2.room.now three.three.now three.room.now four.four.now four.left.now _ _
    c.in_ok-layout.layout _ c.in_ok-announced.announced _ _ c.in_ok-layout.ensures
    (rw c.shortest.ensures at one.ensures.found)
    c.in_ok-announced.ensures c.in_ok-section2.ensures three.ensures.found
    (omega (arith, three.ensures.long)) four.ensures.found
    (sym c.is_empty.ensures ∙ c.if-not-is_empty.false)
    (first_of (search rules, grind (arith, common_steps)))
    (first_of (search rules, grind (arith, common_steps))) c.number_of_two.ensures)
