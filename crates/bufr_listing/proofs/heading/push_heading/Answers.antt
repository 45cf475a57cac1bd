use Rattle.std.proofs.Common.{◌∙◌, ◌++◌, refl, ap, codes}
use Rattle.std.proofs.lemmas.Result.{on_ok_weaker}
use Rattle.bufr_sections.specs.SectionsRead.{message_lent}
use Rattle.bufr_listing.specs.OctetLines.{octets_text}
use Rattle.bufr_listing.proofs.ListingFacts.{heading_written, local_text, section2_text}
use Rattle.bufr_listing.proofs.heading.push_heading.Goals as goal

pub returns : goal.returns
returns c subsets =
    let m = message_lent c.args.sections.now subsets in
    let local =
    c.in_ok-push_octets.ensures
    ∙ ap (λ z. c.push_section1.new.text.items ++ z) (local_text m.head.local) in
    let two =
    c.in_ok-push_octets-2.ensures
    ∙ ap (λ z. c.push_octets.new.text.items ++ z)
    (ap (λ o. octets_text (codes "section2") (codes "section2\n") o) c.as_ref.ensures.value
    ∙ section2_text m.section2) in
    on_ok_weaker c.push_descriptors.result
    (heading_written m _ _ _ _ _ _ _ _ c.in_ok-extend_from_slice.ensures.items refl
    c.in_ok-push_section1.ensures local two c.in_ok-push_flags.ensures)
    c.push_descriptors.ensures
