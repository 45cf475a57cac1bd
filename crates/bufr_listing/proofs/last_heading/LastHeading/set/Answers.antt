use Rattle.std.proofs.Common.{◌≡◌, ◌∙◌, ◌++◌, ap, sym, codes}
use Rattle.std.proofs.lemmas.Result.{on_ok_weaker}
use Rattle.bufr_sections.specs.SectionsRead.{message_lent}
use Rattle.bufr_listing.specs.KeptHeadings.{lines_after_time, lines_before_time}
use Rattle.bufr_listing.specs.Listings.{heading_lines, joined, line, numbers_line}
use Rattle.bufr_listing.specs.Listings.{section1_numbers, time_numbers}
use Rattle.bufr_listing.proofs.KeptHeadingFacts.{bare_joined}
use Rattle.bufr_listing.proofs.last_heading.LastHeading.set.Goals as goal

pub returns-then-not-is_bare : goal.returns-then-not-is_bare
returns-then-not-is_bare c subsets =
    let m = message_lent c.args.sections.now subsets in
    on_ok_weaker c.push_heading.result
    (λ h. h ∙ ap (λ t. t ++ joined (heading_lines m)) c.clear.ensures.items)
    (c.push_heading.ensures subsets)

pub returns : goal.returns
returns c subsets =
    let s = c.args.sections.now in
    let head = s.head.now in
    let before : c.as_slice.result.now ≡ lines_before_time (section1_numbers head) =
    c.as_slice.ensures ∙ c.in_ok-set.ensures
    ∙ ap lines_before_time c.section1_numbers-section1.ensures in
    let after : c.as_slice-2.result.now
    ≡ lines_after_time s.observed s.compressed s.descriptors.now =
    c.as_slice-2.ensures ∙ c.in_ok-set-2.ensures in
    let begun = c.in_ok-extend_from_slice.ensures.items
    ∙ ap (λ t. t ++ c.as_slice.result.now) c.clear.ensures.items in
    let timed = c.in_ok-push_numbers.ensures
    ∙ ap (λ t. t ++ line (numbers_line (codes "time") c.time_numbers-time.result)) begun in
    c.in_ok-extend_from_slice-2.ensures.items
    ∙ ap (λ t. t ++ c.as_slice-2.result.now) timed
    ∙ (λ i. before i
    ++ line (numbers_line (codes "time") (c.time_numbers-time.ensures i)) ++ after i)
    ∙ bare_joined (section1_numbers head) (time_numbers head) s.descriptors.now s.observed
    s.compressed
    ∙ ap joined (sym (c.is_bare.ensures subsets c.if-not-is_bare.false))
