-- A message below 2 to the 24th octets has shorter sections, and the pieces in turn are the
-- message.
use Rattle.std.proofs.Common.{arith}
use Rattle.std.proofs.lemmas.Result.{on_ok_weaker}
use Rattle.bufr_sections.specs.SectionsRead.{envelope_lent}
use Rattle.bufr_sections.proofs.BehindFacts.{when_ok, message_put}
use Rattle.bufr_sections.proofs.LengthFacts.{length_of_spelling}
use Rattle.bufr_sections.proofs.spelling.push_sections.Goals as goal

pub fixed_octets-fixed-requires-clause-local : goal.fixed_octets-fixed-requires-clause-local
fixed_octets-fixed-requires-clause-local c =
    let long =
    length_of_spelling (envelope_lent c.args.sections.now c.args.count c.args.contents.now) in
    omega (arith, long, c.requires.long, c.requires.short)

pub fixed_octets-fixed-requires-clause-listed : goal.fixed_octets-fixed-requires-clause-listed
fixed_octets-fixed-requires-clause-listed c =
    let long =
    length_of_spelling (envelope_lent c.args.sections.now c.args.count c.args.contents.now) in
    omega (arith, long, c.requires.long, c.requires.short)

pub push_before_descriptors-requires : goal.push_before_descriptors-requires
push_before_descriptors-requires c =
    let long =
    length_of_spelling (envelope_lent c.args.sections.now c.args.count c.args.contents.now) in
    omega (arith, long, c.requires.long, c.requires.short)

pub push_section-requires : goal.push_section-requires
push_section-requires c =
    let long =
    length_of_spelling (envelope_lent c.args.sections.now c.args.count c.args.contents.now) in
    omega (arith, long, c.requires.long, c.requires.short)

pub returns-clause-ok : goal.returns-clause-ok
returns-clause-ok c =
    let whole =
    message_put (envelope_lent c.args.sections.now c.args.count c.args.contents.now)
    c.args.out.now.items c.fixed_octets-fixed.result _ _ _ _ c.args.total
    c.fixed_octets-fixed.ensures.start c.fixed_octets-fixed.ensures.end c.requires.long
    c.in_ok-push_before_descriptors.ensures.ok c.in_ok-push_descriptors.ensures.ok
    c.in_ok-push_section.ensures.ok in
    on_ok_weaker c.extend_from_slice.result whole
    (when_ok c.extend_from_slice.result _ _ _ c.extend_from_slice.ensures.items)
