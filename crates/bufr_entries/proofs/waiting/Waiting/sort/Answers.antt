-- Either way the entries are the same in another order, and none is read ahead.
use Rattle.std.proofs.Common.{◌≡◌, ℕ, List, [], map, reverse, rules, subst}
use Rattle.std.proofs.lemmas.Fn.{always_returns_same}
use Rattle.std.proofs.lemmas.List.MinMax.{ranks_by, IsStrictWeakOrder-flip}
use Rattle.std.proofs.lemmas.List.Sorted.{IsPermutation-sym, IsPermutation-trans, IsPermutation-map, length_permutation}
use Rattle.std.specs.List.Sorted.{IsPermutation}
use Rattle.std.specs.Ordering.{is_lt}
use Rattle.bufr_entries.specs.Entries.{slot_cmp}
use Rattle.bufr_entries.specs.Orders.{slots_total}
use Rattle.bufr_entries.specs.Pages.{waits_in, AreLast, AreRising, HaveParts}
use Rattle.bufr_entries.specs.declared.entry.Entry.{Entry}
use Rattle.bufr_entries.specs.declared.waiting.WaitingEntry.{WaitingEntry}
use Rattle.bufr_entries.proofs.AheadLemmas.{none-last}
use Rattle.bufr_entries.proofs.PageLemmas.{Within-permutation, falls, parts-within, rising-sorted}
use Rattle.bufr_entries.proofs.waiting.Waiting.sort.Goals as goal

-- in the order of tickets first, and then in that of slots
sorted_after : (es arranged after : List WaitingEntry) (before : List WaitingEntry)
    → before ≡ es → IsPermutation before arranged → IsPermutation arranged after
    → IsPermutation es after
sorted_after es arranged after before same p q =
    subst (λ xs. IsPermutation xs after) same (IsPermutation-trans before arranged after p q)

moved : (os g : List ℕ) (before after : List WaitingEntry) → IsPermutation before after → g ≡ []
    → HaveParts os before → HaveParts os after × AreLast os after g
moved os g before after p none parts = (
  parts-within os before after
      (Within-permutation after before (IsPermutation-sym before after p)) parts,
  none-last os after g none,
)

moved-view : (os : List ℕ) (before after : List WaitingEntry) (s : List Entry)
    → IsPermutation before after → map (waits_in os) before ≡ s
    → IsPermutation s (map (waits_in os) after)
moved-view os before after s p v =
    subst (λ es. IsPermutation es (map (waits_in os) after)) v
    (IsPermutation-map (waits_in os) before after p)

pub invariant_of-self : goal.invariant_of-self
invariant_of-self c =
    moved c.self.inside.octets.items c.clear.new.self.items c.self.inside.entries.items
    c.merge_runs.new.entries.items c.merge_runs.ensures.permutation c.clear.ensures.items
    c.self.invariant.0

pub returns-then-merge_runs-clause-permutation : goal.returns-then-merge_runs-clause-permutation
returns-then-merge_runs-clause-permutation c =
    moved-view c.self.inside.octets.items c.self.inside.entries.items
    c.merge_runs.new.entries.items c.args.self.now c.merge_runs.ensures.permutation c.self.view_is

pub invariant_of-self-2 : goal.invariant_of-self-2
invariant_of-self-2 c =
    moved c.self.inside.octets.items c.clear.new.self.items c.self.inside.entries.items
    c.sort_unstable_by.new.self.items
    (sorted_after c.self.inside.entries.items c.follow_tickets.new.entries.items
    c.sort_unstable_by.new.self.items c.merge_runs.new.entries.items c.if-merge_runs.ensures.same
    c.follow_tickets.ensures.permutation c.sort_unstable_by.ensures.permutation)
    c.clear.ensures.items c.self.invariant.0

pub returns-clause-permutation : goal.returns-clause-permutation
returns-clause-permutation c =
    moved-view c.self.inside.octets.items c.self.inside.entries.items
    c.sort_unstable_by.new.self.items c.args.self.now
    (sorted_after c.self.inside.entries.items c.follow_tickets.new.entries.items
    c.sort_unstable_by.new.self.items c.merge_runs.new.entries.items c.if-merge_runs.ensures.same
    c.follow_tickets.ensures.permutation c.sort_unstable_by.ensures.permutation) c.self.view_is

pub returns-clause-len : goal.returns-clause-len
returns-clause-len c =
    length_permutation c.args.self.now
    (map (waits_in c.self.inside.octets.items) c.sort_unstable_by.new.self.items)
    (returns-clause-permutation c)

pub returns-clause-rising : goal.returns-clause-rising
returns-clause-rising c =
    let octets = c.as_slice-octets.result.now in
    subst (λ os. AreRising (reverse (map (waits_in os) c.sort_unstable_by.new.self.items)))
    c.as_slice-octets.ensures.value
    (rising-sorted (waits_in octets) c.sort_unstable_by.new.self.items
    (c.sort_unstable_by.ensures.sorted (λ d e. falls (waits_in octets d) (waits_in octets e))
    (IsStrictWeakOrder-flip (λ d e. is_lt (slot_cmp (waits_in octets d) (waits_in octets e)))
    (ranks_by slots_total (waits_in octets)))
    (always_returns_same _ _ _ (λ a r q k. search rules))))
