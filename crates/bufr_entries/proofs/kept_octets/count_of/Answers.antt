use Rattle.std.proofs.Common.{◌≡◌, suc, ◌+◌, ◌<◌, ◌∙◌, ◌++◌, ◌∷◌, [], drop, get_or, length, reverse, take, sym, ap, arith, rules, length-append}
use Rattle.std.proofs.Math.Seq.{take-suc}
use Rattle.std.proofs.lemmas.List.{length-reverse}
use Rattle.bufr_entries.specs.Pages.{flat}
use Rattle.bufr_entries.proofs.PageLemmas.{flat-push, length-paged}
use Rattle.bufr_entries.proofs.kept_octets.count_of.Goals as goal

pub loop-page-preserved : goal.loop-page-preserved
loop-page-preserved c =
    let pages = c.args.pages.now.items in let i = c.loop-page.page-index in
    let page = c.page-item.result in
    let es = c.page.inside.entries.items in
    let octets = drop c.page.inside.from c.page.inside.octets.items in
    let held : c.len.result ≡ length es = search rules in
    let more : c.len.result ≡ length page =
    held ∙ sym (length-reverse es) ∙ sym (length-paged (reverse es) octets) ∙ ap length c.page.view_is in
    let sum : c.in-Some.more ≡ c.loop-page.count + c.len.result = search rules in
    let one : i + 1 ≡ suc i = omega arith in
    let within : i < length pages = search rules in
    let is : get_or pages i page ≡ page =
    ap (λ ps. get_or ps i page) (sym c.deref-page-items.ensures.value) ∙ sym c.page-item.is in
    let here : take (i + 1) pages ≡ take i pages ++ page ∷ [] =
    ap (λ k. take k pages) one ∙ take-suc pages i page within
    ∙ ap (λ p. take i pages ++ p ∷ []) is in
    let all = ap (λ ps. length (flat ps)) here ∙ ap length (flat-push (take i pages) page)
    ∙ length-append (flat (take i pages)) page in
    let so_far : c.loop-page.count ≡ length (flat (take i pages)) = c.loop-page.invariant in
    let goal : c.in-Some.more ≡ length (flat (take (i + 1) pages)) =
    omega (arith, sum, more, all, so_far) in
    goal
