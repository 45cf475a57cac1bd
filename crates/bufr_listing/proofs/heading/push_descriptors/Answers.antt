use Rattle.std.proofs.Common.{◌≡◌, ◌∷◌, ◌++◌, ◌∙◌, [], ap, codes}
use Rattle.std.specs.List.{flat_map}
use Rattle.std.proofs.lemmas.List.{take_all}
use Rattle.bufr_tables.specs.Descriptors.{six_digits}
use Rattle.bufr_listing.proofs.ListingFacts.{words_behind}
use Rattle.bufr_listing.proofs.heading.push_descriptors.Goals as goal

pub returns : goal.returns
returns c =
    let old = c.args.text.now.items in
    let ds = c.args.descriptors.now in
    let all = take_all c.loop-fxy.fxy-index ds c.loop-fxy-test.false in
    let before : c.loop-fxy.text.items
    ≡ old ++ codes "descriptors" ++ flat_map (λ d. 32 ∷ six_digits d) ds =
    c.loop-fxy.invariant ∙ (λ i. c.in_ok-extend_from_slice.ensures.items i
    ++ flat_map (λ d. 32 ∷ six_digits d) (all i)) in
    c.in_ok-push.ensures.items ∙ ap (λ zs. zs ++ 10 ∷ []) before
    ∙ words_behind six_digits old (codes "descriptors") ds
