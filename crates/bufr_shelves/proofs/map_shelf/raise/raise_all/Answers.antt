use Rattle.std.proofs.Common.{◌∙◌, ap, sym, map}
use Rattle.std.specs.Map.Iter.{deref_pair}
use Rattle.bufr_entries.specs.Keeping.{put_by, put_all}
use Rattle.bufr_shelves.specs.Pairs.{by_key, by_value}
use Rattle.bufr_shelves.proofs.PairLemmas.{put_all-push, map-push}
use Rattle.bufr_shelves.proofs.map_shelf.raise.raise_all.Goals as goal

pub loop-key-preserved : goal.loop-key-preserved
loop-key-preserved g c =
    let slot = by_key g.K.Ord.cmp in let rank = by_value g.V.Ord.cmp in
    let so_far = map deref_pair c.loop-key.yielded in
    c.in_ok-raise.ensures.ok
    ∙ ap (λ k. put_by slot rank (k, c.in_ok-value.value) c.loop-key.map.entries)
    (g.met.K.Exact.faithful _ _ c.in_ok-key.ensures.cases)
    ∙ ap (λ v. put_by slot rank (c.in-Some.key.now, v) c.loop-key.map.entries)
    (g.met.V.Exact.faithful _ _ c.in_ok-value.ensures.cases)
    ∙ ap (put_by slot rank (c.in-Some.key.now, c.in-Some.value.now)) c.loop-key.invariant
    ∙ sym (put_all-push g.K.Ord.cmp g.V.Ord.cmp c.args.map.now.entries so_far
    (c.in-Some.key.now, c.in-Some.value.now))
    ∙ ap (put_all slot rank c.args.map.now.entries)
    (sym (map-push deref_pair c.loop-key.yielded (c.in-Some.key, c.in-Some.value)))
