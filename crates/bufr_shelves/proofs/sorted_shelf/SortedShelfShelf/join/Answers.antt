-- Each vector is merged with the other shelf's.
use Rattle.std.proofs.Common.{◌∙◌, ◌++◌, ap, sym, subst}
use Rattle.std.specs.List.Sorted.{IsStrictlySortedBy}
use Rattle.std.specs.Map.{keys_of}
use Rattle.std.specs.Ordering.{nat_cmp}
use Rattle.std.specs.Cmp.Lexicographic.{slice_cmp}
use Rattle.bufr_entries.specs.Keeping.{put_all}
use Rattle.bufr_shelves.specs.Pairs.{shelved, by_key, by_value}
use Rattle.bufr_entries.specs.DerivedOrders.{key_order}
use Rattle.bufr_shelves.specs.Ranks.{rank_order}
use Rattle.bufr_shelves.proofs.ShelvedLemmas.{shelved-all, kept-of, entries-join, sorted-keyed}
use Rattle.bufr_shelves.proofs.ShelvedLemmas.{sorted-unkeyed}
use Rattle.bufr_shelves.proofs.sorted_shelf.SortedShelfShelf.join.Goals as goal

pub merge-requires-clause-sorted : goal.merge-requires-clause-sorted
merge-requires-clause-sorted c =
    subst (λ xs. IsStrictlySortedBy key_order (keys_of xs)) (sym c.in_ok-keyed.ensures)
    (sorted-keyed c.other.inside.keyed.items c.other.inside.unkeyed.items c.other.invariant)

pub merge-requires-2-clause-sorted : goal.merge-requires-2-clause-sorted
merge-requires-2-clause-sorted c =
    subst (λ xs. IsStrictlySortedBy (slice_cmp nat_cmp) (keys_of xs)) (sym c.in_ok-unkeyed.ensures)
    (sorted-unkeyed c.other.inside.keyed.items c.other.inside.unkeyed.items c.other.invariant)

pub invariant_of-self : goal.invariant_of-self
invariant_of-self c =
    let ks = c.self.inside.keyed.items in let us = c.self.inside.unkeyed.items in
    let ls = c.other.inside.keyed.items in let vs = c.other.inside.unkeyed.items in
    let keyed =
    c.merge.ensures ∙ ap (put_all (by_key key_order) (by_value rank_order) ks)
    c.in_ok-keyed.ensures in
    let unkeyed =
    c.merge-2.ensures ∙ ap (put_all (by_key (slice_cmp nat_cmp)) (by_value nat_cmp) us)
    c.in_ok-unkeyed.ensures in
    kept-of _ (shelved ks us ++ shelved ls vs)
    (ap (λ x. shelved x c.merge-2.new.left.items) keyed
    ∙ ap (shelved (put_all (by_key key_order) (by_value rank_order) ks ls)) unkeyed
    ∙ shelved-all ks ls us vs c.self.invariant)

pub returns-clause-ok : goal.returns-clause-ok
returns-clause-ok c =
    let ks = c.self.inside.keyed.items in let us = c.self.inside.unkeyed.items in
    let ls = c.other.inside.keyed.items in let vs = c.other.inside.unkeyed.items in
    let keyed =
    c.merge.ensures ∙ ap (put_all (by_key key_order) (by_value rank_order) ks)
    c.in_ok-keyed.ensures in
    let unkeyed =
    c.merge-2.ensures ∙ ap (put_all (by_key (slice_cmp nat_cmp)) (by_value nat_cmp) us)
    c.in_ok-unkeyed.ensures in
    entries-join c.args.self.now (shelved ks us) (shelved ls vs) c.args.other.now _ c.self.view_is
    c.other.view_is
    (ap (λ x. shelved x c.merge-2.new.left.items) keyed
    ∙ ap (shelved (put_all (by_key key_order) (by_value rank_order) ks ls)) unkeyed
    ∙ shelved-all ks ls us vs c.self.invariant)
