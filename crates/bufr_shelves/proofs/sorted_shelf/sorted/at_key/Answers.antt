use Rattle.std.proofs.Common.{◌∙◌, ap, sym}
use Rattle.bufr_shelves.proofs.SortedLemmas.{find-place, at_place}
use Rattle.bufr_shelves.proofs.sorted_shelf.sorted.at_key.Goals as goal

pub returns-in-Ok : goal.returns-in-Ok
returns-in-Ok g c =
    c.pair_at.ensures ∙ ap (λ r. at_place r c.args.pairs.now.items) c.in-Ok.ensures.place
    ∙ sym (find-place g.K.Ord.cmp g.met.K.Ord.total c.args.key.now c.args.pairs.now.items
    c.requires)

pub returns-in-Err : goal.returns-in-Err
returns-in-Err g c =
    ap (λ r. at_place r c.args.pairs.now.items) c.in-Err.ensures.place
    ∙ sym (find-place g.K.Ord.cmp g.met.K.Ord.total c.args.key.now c.args.pairs.now.items
    c.requires)
