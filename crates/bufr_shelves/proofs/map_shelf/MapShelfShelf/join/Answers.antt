-- Each map takes in all pairs of the other shelf's.
use Rattle.std.proofs.Common.{◌∙◌, ◌++◌, ap}
use Rattle.std.specs.Ordering.{nat_cmp}
use Rattle.std.specs.Cmp.Lexicographic.{slice_cmp}
use Rattle.bufr_entries.specs.Keeping.{put_all}
use Rattle.bufr_shelves.specs.Pairs.{shelved, by_key, by_value}
use Rattle.bufr_entries.specs.DerivedOrders.{key_order}
use Rattle.bufr_shelves.specs.Ranks.{rank_order}
use Rattle.bufr_shelves.proofs.ShelvedLemmas.{shelved-all, kept-of, entries-join}
use Rattle.bufr_shelves.proofs.map_shelf.MapShelfShelf.join.Goals as goal

pub invariant_of-self : goal.invariant_of-self
invariant_of-self c =
    let ks = c.self.inside.keyed.entries in let us = c.self.inside.unkeyed.entries in
    let ls = c.other.inside.keyed.entries in let vs = c.other.inside.unkeyed.entries in
    let keyed =
    c.in_ok-raise_all.ensures ∙ ap (λ x. put_all (by_key key_order) (by_value rank_order) x ls)
    c.in_ok-keyed.ensures in
    let unkeyed = c.in_ok-raise_all-2.ensures
    ∙ ap (λ x. put_all (by_key (slice_cmp nat_cmp)) (by_value nat_cmp) x vs)
    c.in_ok-unkeyed.ensures in
    kept-of _ (shelved ks us ++ shelved ls vs)
    (ap (λ x. shelved x c.raise_all-2.new.map.entries) keyed
    ∙ ap (shelved (put_all (by_key key_order) (by_value rank_order) ks ls)) unkeyed
    ∙ shelved-all ks ls us vs c.self.invariant)

pub returns-clause-ok : goal.returns-clause-ok
returns-clause-ok c =
    let ks = c.self.inside.keyed.entries in let us = c.self.inside.unkeyed.entries in
    let ls = c.other.inside.keyed.entries in let vs = c.other.inside.unkeyed.entries in
    let keyed =
    c.in_ok-raise_all.ensures ∙ ap (λ x. put_all (by_key key_order) (by_value rank_order) x ls)
    c.in_ok-keyed.ensures in
    let unkeyed = c.in_ok-raise_all-2.ensures
    ∙ ap (λ x. put_all (by_key (slice_cmp nat_cmp)) (by_value nat_cmp) x vs)
    c.in_ok-unkeyed.ensures in
    entries-join c.args.self.now (shelved ks us) (shelved ls vs) c.args.other.now _ c.self.view_is
    c.other.view_is
    (ap (λ x. shelved x c.raise_all-2.new.map.entries) keyed
    ∙ ap (shelved (put_all (by_key key_order) (by_value rank_order) ks ls)) unkeyed
    ∙ shelved-all ks ls us vs c.self.invariant)
