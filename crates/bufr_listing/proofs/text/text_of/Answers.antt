use Rattle.std.proofs.Common.{◌++◌, ◌∙◌, sym}
use Rattle.std.specs.List.{flat_map}
use Rattle.std.proofs.lemmas.List.{take_all}
use Rattle.bufr_listing.specs.Listings.{joined, heading_lines, subset_lines}
use Rattle.bufr_listing.proofs.FrontFacts.{one_more}
use Rattle.bufr_listing.proofs.ListingFacts.{listing_in_parts}
use Rattle.bufr_listing.proofs.text.text_of.Goals as goal

pub returns : goal.returns
returns c =
    let m = c.args.message.now in
    let all = take_all c.loop-subset.subset-index c.as_slice-subset-items.result.now
    c.loop-subset-test.false ∙ c.as_slice-subset-items.ensures in
    let heading = c.in_ok-push_heading.ensures m.subsets
    ∙ (λ i. c.in_ok-text.ensures.items i ++ joined (heading_lines (c.of_message.ensures i))) in
    let before = c.loop-subset.invariant
    ∙ (λ i. heading i ++ flat_map (λ s. joined (subset_lines s)) (all i)) in
    c.in_ok-extend_from_slice.ensures.items ∙ (λ i. before i ++ c.end_text.ensures i)
    ∙ sym (listing_in_parts m)

pub loop-subset-preserved : goal.loop-subset-preserved
loop-subset-preserved c =
    one_more (λ s. joined (subset_lines s)) c.as_slice-subset-items.result.now
    c.loop-subset.subset-index _ c.subset-item.result c.push_heading.new.text.items
    c.loop-subset.text.items _ c.loop-subset-test.true c.subset-item.is c.loop-subset.invariant
    c.in_ok-push_subset.ensures.ok
