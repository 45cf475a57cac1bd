-- Octets and list end together or part at a first difference.
use Rattle.std.proofs.Common.{◌≡◌, ◌∙◌, ◌-◌, length, drop, arith, sym, length-drop}
use Rattle.std.proofs.lemmas.Bool.{OnTrue_from, OnFalse_from, ltb-true, ltb-false}
use Rattle.std.proofs.lemmas.List.{take_all}
use Rattle.bufr_sections.specs.Sections.{descriptors_of}
use Rattle.bufr_sections.proofs.ListFacts.{listed_more, others_short, others_long, others_here}
use Rattle.bufr_sections.proofs.ListFacts.{same_ended}
use Rattle.bufr_sections.proofs.listed.are_listed.Goals as goal

pub returns-in_default-clause-others : goal.returns-in_default-clause-others
returns-in_default-clause-others c =
    others_short c.args.descriptors.now c.loop-descriptor.rest.now (descriptors_of c.args.octets.now)
    c.loop-descriptor.descriptor-index (omega (arith, c.in_default.len_below))
    (omega (arith, c.loop-descriptor-test.true)) c.loop-descriptor.invariant

pub returns-in_default-2-clause-others : goal.returns-in_default-2-clause-others
returns-in_default-2-clause-others c =
    others_here c.args.descriptors.now c.loop-descriptor.rest.now (descriptors_of c.args.octets.now)
    c.loop-descriptor.descriptor-index c.descriptor-item.result c.in-len2-up.len_at_least
    (omega (arith, c.loop-descriptor-test.true)) c.loop-descriptor.invariant
    (λ e. c.if-number_of_two-bits.false (c.number_of_two.ensures ∙ e ∙ sym c.bits.ensures))
    c.descriptor-item.is

pub loop-descriptor-preserved : goal.loop-descriptor-preserved
loop-descriptor-preserved c =
    let more =
    listed_more c.args.descriptors.now c.loop-descriptor.rest.now (descriptors_of c.args.octets.now)
    c.loop-descriptor.descriptor-index c.descriptor-item.result c.in-len2-up.len_at_least
    (omega (arith, c.loop-descriptor-test.true)) c.loop-descriptor.invariant
    (sym c.bits.ensures ∙ sym c.if-number_of_two-bits.true ∙ c.number_of_two.ensures)
    c.descriptor-item.is in
    let size : length c.loop-descriptor.rest.now - 2 ≡ length (drop 2 c.loop-descriptor.rest.now) =
    omega (arith, length-drop 2 c.loop-descriptor.rest.now) in
    let whole = take_all (length c.loop-descriptor.rest.now - 2) (drop 2 c.loop-descriptor.rest.now)
    (omega (arith, size)) in
    rw whole more

pub returns-clause-same : goal.returns-clause-same
returns-clause-same c =
    OnTrue_from _ _ (λ t. same_ended c.args.descriptors.now c.loop-descriptor.rest.now
    (descriptors_of c.args.octets.now) c.loop-descriptor.descriptor-index (ltb-true _ _ t)
    c.loop-descriptor-test.false c.loop-descriptor.invariant)

pub returns-clause-others : goal.returns-clause-others
returns-clause-others c =
    OnFalse_from _ _ (λ t. others_long c.args.descriptors.now c.loop-descriptor.rest.now
    (descriptors_of c.args.octets.now) c.loop-descriptor.descriptor-index (ltb-false _ _ t)
    c.loop-descriptor-test.false c.loop-descriptor.invariant)
