-- The first line and one line for each field; a failed growth is cut back.
use Rattle.std.proofs.Common.{◌++◌, ◌∙◌}
use Rattle.std.specs.List.{flat_map}
use Rattle.std.proofs.lemmas.List.{take_all}
use Rattle.bufr_listing.specs.Listings.{line, field_line}
use Rattle.bufr_listing.proofs.ListingFacts.{subset_behind}
use Rattle.bufr_listing.proofs.FrontFacts.{one_more, unless_failed, cut_back}
use Rattle.bufr_listing.proofs.fields.push_subset.Goals as goal

pub returns-clause-ok : goal.returns-clause-ok
returns-clause-ok c =
    let all = take_all c.loop-field.field-index c.as_slice-field-items.result.now
    c.loop-field-test.false ∙ c.as_slice-field-items.ensures in
    c.loop-field.invariant
    ∙ (λ i. c.in_ok-push_subset_line.ensures.ok i ++ flat_map (λ f. line (field_line f)) (all i))
    ∙ subset_behind c.args.text.now.items c.args.subset.now

pub returns-then-is_err-clause-err : goal.returns-then-is_err-clause-err
returns-then-is_err-clause-err c =
    cut_back _ _ _ _ _ _ _ _ _ (c.len-held.ensures ∙ c.args.text.now.ok.0) c.in_ok-push_subset_line.ensures.ok
    c.loop-field.invariant c.push_field-added.ensures.err c.truncate.ensures.items

pub loop-field-preserved : goal.loop-field-preserved
loop-field-preserved c =
    one_more (λ f. line (field_line f)) c.as_slice-field-items.result.now
    c.loop-field.field-index _ c.field-item.result c.push_subset_line.new.text.items
    c.loop-field.text.items _ c.loop-field-test.true c.field-item.is c.loop-field.invariant
    (unless_failed c.push_field-added.result c.if-is_err.ensures.value c.push_field-added.ensures.ok)
