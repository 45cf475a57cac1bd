use Rattle.std.proofs.Common.{◌≡◌, map}
use Rattle.std.specs.Map.Iter.{deref_pair}
use Rattle.bufr_entries.specs.Keeping.{put_all}
use Rattle.bufr_shelves.specs.Pairs.{by_key, by_value}
use Rattle.bufr_shelves.proofs.map_shelf.raise.raise_all.Given as goal

-- the map has the pairs before this one put in
abbrev pub invariant-loop-key : goal.invariant-loop-key
invariant-loop-key g l =
    l.map.entries ≡ put_all (by_key g.K.Ord.cmp) (by_value g.V.Ord.cmp) l.initial.map.entries
    (map deref_pair l.yielded)
