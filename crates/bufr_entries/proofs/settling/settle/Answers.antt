-- At each step all entries together keep the same.
use Rattle.std.proofs.Common.{◌≡◌, ◌∙◌, ◌++◌, reverse, sym, ap, append_assoc, rules}
use Rattle.std.proofs.lemmas.List.Sorted.{IsPermutation-sym}
use Rattle.std.specs.List.Sorted.{IsStrictlySortedBy}
use Rattle.bufr_entries.specs.Entries.{slot_cmp, kept}
use Rattle.bufr_entries.specs.Orders.{kept-kept}
use Rattle.bufr_entries.specs.Pages.{flat}
use Rattle.bufr_entries.proofs.PageLemmas.{Within-permutation, kept-anyhow, kept-turned, settled-so}
use Rattle.bufr_entries.proofs.settling.settle.Goals as goal
use Rattle.bufr_entries.proofs.settling.settle.Goals.{After-settle_page}

pub loop-alloc-init : goal.loop-alloc-init
loop-alloc-init c =
    let ss = c.take_back.new.settled.items in
    let left = c.take_back.new.self in
    let before = c.args.waiting.now in let after = c.sort.new.self in
    let moved = c.sort.ensures.permutation in
    let rest = kept (left ++ reverse after) in
    let all : flat ss ++ rest ≡ kept (flat c.args.settled.now.items ++ (c.args.left.now ++ before)) =
    ap (λ ps. flat ps ++ rest) c.in_ok-take_back.ensures.done
    ∙ sym (kept-kept (left ++ reverse after))
    ∙ sym (ap (λ ps. kept (flat ps ++ rest)) c.in_ok-take_back.ensures.done)
    ∙ sym (kept-turned (flat ss) left after)
    ∙ ap kept (sym (append_assoc (flat ss) left after))
    ∙ ap (λ es. kept (es ++ after)) c.take_back.ensures.all
    ∙ ap kept (append_assoc (flat c.args.settled.now.items) c.args.left.now after)
    ∙ kept-anyhow (flat c.args.settled.now.items) c.args.left.now after before (
      Within-permutation after before (IsPermutation-sym before after moved),
      Within-permutation before after moved,
    ) in
    record { sorted = search rules; rising = search rules; all = all; fewer = search rules }

so_far : (c : After-settle_page) → let new = c.settle_page.new in
    IsStrictlySortedBy slot_cmp (flat new.settled.items ++ new.left)
    × (kept (flat new.settled.items ++ (new.left ++ new.waiting))
    ≡ kept (flat c.args.settled.now.items ++ (c.args.left.now ++ c.args.waiting.now)))
so_far c =
    let new = c.settle_page.new in
    settled-so (flat new.settled.items) new.left new.waiting
    (flat c.args.settled.now.items ++ (c.args.left.now ++ c.args.waiting.now))
    c.settle_page.ensures.sorted (c.settle_page.ensures.all ∙ c.loop-alloc.invariant.all)

pub returns-in_err-settle_page-clause-sorted : goal.returns-in_err-settle_page-clause-sorted
returns-in_err-settle_page-clause-sorted c =
    (so_far ((goal.at.returns-in_err-settle_page-clause-sorted c).After-settle_page)).0

pub returns-in_err-settle_page-clause-all : goal.returns-in_err-settle_page-clause-all
returns-in_err-settle_page-clause-all c =
    (so_far ((goal.at.returns-in_err-settle_page-clause-all c).After-settle_page)).1

pub returns-clause-sorted : goal.returns-clause-sorted
returns-clause-sorted c =
    (settled-so (flat c.loop-alloc.settled.items) c.loop-alloc.left c.loop-alloc.waiting
    (flat c.args.settled.now.items ++ (c.args.left.now ++ c.args.waiting.now)) c.loop-alloc.invariant.sorted c.loop-alloc.invariant.all).0

pub returns-clause-all : goal.returns-clause-all
returns-clause-all c =
    ap (λ es. kept (flat c.loop-alloc.settled.items ++ (c.loop-alloc.left ++ es))) c.give_back.ensures
    ∙ (settled-so (flat c.loop-alloc.settled.items) c.loop-alloc.left c.loop-alloc.waiting
    (flat c.args.settled.now.items ++ (c.args.left.now ++ c.args.waiting.now)) c.loop-alloc.invariant.sorted c.loop-alloc.invariant.all).1
