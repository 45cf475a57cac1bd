use Rattle.bufr_shelves.proofs.PairLemmas.{find-lookup}
use Rattle.bufr_shelves.proofs.map_shelf.raise.at_key.Goals as goal

pub returns : goal.returns
returns g c =
    find-lookup (g.K.Ord.cmp c.args.key.now) (λ p. p.0.now) (λ p. p.1.now) c.args.map.now.entries
    c.get_key_value.result c.get_key_value.ensures.key c.get_key_value.ensures.value
