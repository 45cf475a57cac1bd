-- Clones of exact keys and values equal their sources.
use Rattle.std.proofs.lemmas.Map.Entries.{entries_from_clone}
use Rattle.bufr_shelves.proofs.PairLemmas.{from_match}
use Rattle.bufr_shelves.proofs.map_shelf.raise.copied.Goals as goal

pub returns : goal.returns
returns g c =
    from_match c.clone.result _ _ _
    (λ n h. entries_from_clone g.K.Clone.is_clone g.V.Clone.is_clone g.met.K.Exact.faithful
    g.met.V.Exact.faithful c.args.map.now.entries n.entries h)
    c.clone.ensures.cases
