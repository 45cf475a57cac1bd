use Rattle.std.proofs.Common.{rules}
use Rattle.std.proofs.lemmas.Fn.{always_returns_same}
use Rattle.std.proofs.lemmas.List.MinMax.{ranks_by, IsStrictWeakOrder-flip}
use Rattle.std.specs.Ordering.{is_lt}
use Rattle.bufr_entries.specs.Entries.{slot_cmp}
use Rattle.bufr_entries.specs.Orders.{slots_total}
use Rattle.bufr_entries.specs.Pages.{waits_in}
use Rattle.bufr_entries.proofs.PageLemmas.{falls, rising-sorted}
use Rattle.bufr_entries.proofs.waiting.merge_runs.Goals as goal

pub returns-clause-rising : goal.returns-clause-rising
returns-clause-rising c =
    let octets = c.args.octets.now in
    rising-sorted (waits_in octets) c.sort_by.new.self.items
    (c.in-Ok.ensures.sorted (λ d e. falls (waits_in octets d) (waits_in octets e))
    (IsStrictWeakOrder-flip (λ d e. is_lt (slot_cmp (waits_in octets d) (waits_in octets e)))
    (ranks_by slots_total (waits_in octets)))
    (always_returns_same _ _ _ (λ a r q k. search rules)))
