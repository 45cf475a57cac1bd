-- Ranks that tie are equal, and so are clones: for `Exact`.
use Rattle.std.proofs.Common.{◌≡◌, ap, ◌∙◌}
use Rattle.std.proofs.lemmas.Map.Lookups.{exact_unsigned, exact_bytes}
use Rattle.std.specs.Ordering.{nat_cmp, ordering_then}
use Rattle.std.specs.declared.cmp.Ordering.{Ordering}
use Rattle.std.specs.declared.cmp.Ordering.TheVariants.{Equal}
use Rattle.bufr_entries.specs.KeyOrders.{octets_cmp}
use Rattle.bufr_shelves.specs.declared.rank.Rank.{Rank}
use Rattle.bufr_shelves.specs.contracts.rank.RankOrd.TheImpl as rank_ord
use Rattle.bufr_entries.specs.Orders.{both_equal}

-- the derived order of ranks
abbrev pub rank_order : Rank → Rank → Ordering
rank_order = (rank_ord.ghosts).cmp

pub exact_ranks : (a b : Rank)
    → ordering_then (nat_cmp a.update b.update) (octets_cmp a.bytes b.bytes) ≡ Equal → a ≡ b
exact_ranks a b h =
    let e = both_equal (nat_cmp a.update b.update) _ h in
    ap (λ z. record a { update = z }) (exact_unsigned a.update b.update e.0)
    ∙ ap (λ z. record b { bytes = z }) (exact_bytes a.bytes b.bytes e.1)

pub same_ranks : (a b : Rank) → b.update ≡ a.update → b.bytes ≡ a.bytes → b ≡ a
same_ranks a b u o = ap (λ z. record b { update = z }) u ∙ ap (λ z. record a { bytes = z }) o
