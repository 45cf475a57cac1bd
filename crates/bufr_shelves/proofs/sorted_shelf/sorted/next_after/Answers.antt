-- The pair after the index of the key.
use Rattle.std.proofs.Common.{◌∙◌, ap, sym, slice_get, add-one}
use Rattle.bufr_shelves.proofs.SortedLemmas.{next-place, after_place}
use Rattle.bufr_shelves.proofs.sorted_shelf.sorted.next_after.Goals as goal

pub returns-in-Ok : goal.returns-in-Ok
returns-in-Ok g c =
    c.pair_at.ensures ∙ ap (slice_get c.args.pairs.now.items) (add-one c.in-Ok.index)
    ∙ ap (λ r. after_place r c.args.pairs.now.items) c.in-Ok.ensures.place
    ∙ sym (next-place g.K.Ord.cmp g.met.K.Ord.total c.args.key.now c.args.pairs.now.items
    c.requires)

pub returns-in-Err : goal.returns-in-Err
returns-in-Err g c =
    c.pair_at-in-Err.ensures ∙ ap (λ r. after_place r c.args.pairs.now.items) c.in-Err.ensures.place
    ∙ sym (next-place g.K.Ord.cmp g.met.K.Ord.total c.args.key.now c.args.pairs.now.items
    c.requires)
