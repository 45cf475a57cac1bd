use Rattle.std.proofs.Common.{◌≡◌, ◌∙◌, length, drop, ◌-◌, sym, arith, length-drop, append-nil}
use Rattle.std.proofs.lemmas.List.{take_all}
use Rattle.bufr_sections.proofs.ListFacts.{descriptors_more, descriptors_none}
use Rattle.bufr_sections.specs.Sections.{descriptors_of}
use Rattle.bufr_sections.proofs.listed.descriptors_of.Goals as goal

pub loop-rest-preserved : goal.loop-rest-preserved
loop-rest-preserved c =
    let more =
    descriptors_more c.loop-rest.list.items c.loop-rest.rest.now c.from_bits.result
    (descriptors_of c.args.octets.now) c.in-len2-up.len_at_least c.loop-rest.invariant
    (c.from_bits.ensures ∙ c.number_of_two.ensures) in
    let size : length c.loop-rest.rest.now - 2 ≡ length (drop 2 c.loop-rest.rest.now) =
    omega (arith, length-drop 2 c.loop-rest.rest.now) in
    let whole = take_all (length c.loop-rest.rest.now - 2) (drop 2 c.loop-rest.rest.now)
    (omega (arith, size)) in
    rw (c.in_ok-push.ensures.items, whole) more

pub returns : goal.returns
returns c =
    let none = descriptors_none c.loop-rest.rest.now (omega (arith, c.in_default.len_below)) in
    c.from_vec.ensures ∙ sym (append-nil c.loop-rest.list.items) ∙ rw none at c.loop-rest.invariant
