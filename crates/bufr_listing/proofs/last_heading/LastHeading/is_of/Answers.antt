-- The lines before the time, the time and the lines after it are those of the message.
use Rattle.std.proofs.Common.{◌≡◌, ◌∙◌, ◌++◌, ap, sym, codes}
use Rattle.bufr_listing.specs.KeptHeadings.{lines_after_time, lines_before_time}
use Rattle.bufr_listing.specs.Listings.{joined, line, numbers_line}
use Rattle.bufr_listing.specs.Listings.{section1_numbers, time_numbers}
use Rattle.bufr_listing.proofs.KeptHeadingFacts.{bare_joined}
use Rattle.bufr_listing.proofs.last_heading.LastHeading.is_of.Goals as goal

pub returns : goal.returns
returns c subsets equal =
    let h = c.self.inside in
    let s = c.args.sections.now in
    let time : h.time ≡ time_numbers s.head.now =
    c.are_same.ensures c.if-not-are_same.false ∙ c.requires.time in
    let before : h.before ≡ lines_before_time (section1_numbers s.head.now) =
    c.are_of.ensures c.if-not-are_of.false ∙ ap lines_before_time c.requires.section1 in
    let after : h.after ≡ lines_after_time s.observed s.compressed s.descriptors.now =
    c.are_of-2.ensures equal in
    sym c.self.view_is
    ∙ c.self.invariant c.if-not-self.false
    ∙ (λ i. before i ++ line (numbers_line (codes "time") (time i)) ++ after i)
    ∙ bare_joined (section1_numbers s.head.now) (time_numbers s.head.now) s.descriptors.now
    s.observed s.compressed
    ∙ ap joined (sym (c.is_bare.ensures subsets c.if-not-is_bare.false))
