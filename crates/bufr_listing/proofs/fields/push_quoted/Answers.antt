-- Each octet follows as it appears between quotes; a failed growth keeps the old octets.
use Rattle.std.proofs.Common.{◌≡◌, ◌++◌, ◌∙◌, sym, refl, rules, tests}
use Rattle.std.specs.List.{list_all, flat_map}
use Rattle.std.proofs.lemmas.List.{take_all}
use Rattle.std.proofs.lemmas.Result.{MatchResult-from_err}
use Rattle.std.proofs.lemmas.Iterator.{YieldsList-from_slice}
use Rattle.std.proofs.lemmas.Iterator.Search.{all_from_yields_List}
use Rattle.bufr_listing.specs.Listings.{is_literal, quoted_octet}
use Rattle.bufr_listing.proofs.QuoteFacts.{printed_themselves, on_ok_same, between_quotes}
use Rattle.bufr_listing.proofs.FrontFacts.{one_more, front_kept, front_kept_where_failed}
use Rattle.bufr_listing.proofs.fields.push_quoted.Goals as goal

pub returns-then-all-clause-ok : goal.returns-then-all-clause-ok
returns-then-all-clause-ok c =
    let octets = c.args.octets.now in
    let same : c.all.result ≡ list_all is_literal octets =
    all_from_yields_List is_literal _ _ c.all.result c.all.ensures.ran
    (YieldsList-from_slice octets c.iter.ensures.rest) (λ x b q k. search (rules, tests)) in
    let all = sym same ∙ c.if-all.true in
    on_ok_same c.extend_from_slice-then-all.result _ _ _ _
    c.extend_from_slice-then-all.ensures.items
    (between_quotes c.args.text.now.items _ _ _ _ (sym (printed_themselves octets all))
    c.in_ok-push.ensures.items c.in_ok-extend_from_slice.ensures.items)

pub loop-octet-preserved : goal.loop-octet-preserved
loop-octet-preserved c =
    one_more quoted_octet c.args.octets.now c.loop-octet.octet-index 0 _ c.push.new.self.items
    c.loop-octet.text.items _ c.loop-octet-test.true refl c.loop-octet.invariant
    c.in_ok-push_octet.ensures.ok

pub returns-in_err-push_octet-clause-kept : goal.returns-in_err-push_octet-clause-kept
returns-in_err-push_octet-clause-kept c =
    MatchResult-from_err c.from_residual-in_err-push_octet.result _ _
    c.from_residual-in_err-push_octet.ensures.0
    (λ _. front_kept c.args.text.now.items _ c.push.new.self.items _ _
    c.in_ok-push.ensures.items (c.in_err-push_octet.ensures.err ∙ c.loop-octet.invariant))

pub returns-clause-ok : goal.returns-clause-ok
returns-clause-ok c =
    let all = take_all c.loop-octet.octet-index c.args.octets.now c.loop-octet-test.false in
    on_ok_same c.extend_from_slice-2.result _ _ _ _ c.extend_from_slice-2.ensures.items
    (between_quotes c.args.text.now.items _ _ _ _ refl c.in_ok-push.ensures.items
    (c.loop-octet.invariant
    ∙ (λ i. c.push.new.self.items ++ flat_map quoted_octet (all i))))

pub returns-clause-kept : goal.returns-clause-kept
returns-clause-kept c =
    front_kept_where_failed c.extend_from_slice-2.result c.args.text.now.items _
    c.push.new.self.items _ c.loop-octet.text.items _ _ c.in_ok-push.ensures.items
    c.loop-octet.invariant c.extend_from_slice-2.ensures.items
