use Rattle.std.proofs.Common.{◌≡◌, ◌++◌, ◌∙◌, [], length, map, reverse, sym, ap, subst, arith}
use Rattle.std.specs.List.Sorted.{IsStrictlySortedBy}
use Rattle.bufr_entries.specs.Entries.{slot_cmp}
use Rattle.bufr_entries.specs.Pages.{flat, waits_in}
use Rattle.bufr_entries.proofs.builder.ShelfBuilder.new.Goals as goal

pub invariant_of-result-3 : goal.invariant_of-result-3
unfolding IsStrictlySortedBy
invariant_of-result-3 c =
    let page = c.new-2.result in let pages = c.new-3.result.items in
    let left : page ++ flat (reverse pages) ≡ [] =
    ap (λ ps. page ++ flat (reverse ps)) c.new-3.ensures.items ∙ ap (λ p. p ++ []) c.new-2.ensures in
    let none : flat c.new.result.items ++ (page ++ flat (reverse pages)) ≡ [] =
    ap (λ ps. flat ps ++ (page ++ flat (reverse pages))) c.new.ensures.items ∙ left in
    let waiting : length (map (waits_in c.new-5.result.items) c.new-4.result.items) ≡ 0 =
    ap (λ es. length (map (waits_in c.new-5.result.items) es)) c.new-4.ensures.items in
    (subst (IsStrictlySortedBy slot_cmp) (sym none) tt, omega (arith, waiting), omega arith)
