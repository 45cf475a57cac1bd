use Rattle.std.proofs.Common.{◌∙◌, ap}
use Rattle.std.specs.Ordering.{is_lt}
use Rattle.std.specs.Map.Iter.{deref_pair}
use Rattle.std.specs.BTreeMap.Range.{range_contains}
use Rattle.std.specs.declared.ops.Bound.TheVariants.{Excluded, Unbounded}
use Rattle.bufr_entries.specs.Keeping.{first_of}
use Rattle.bufr_shelves.proofs.PairLemmas.{first-taken, find-filter, and-true}
use Rattle.bufr_shelves.proofs.map_shelf.raise.next_after.Goals as goal

pub returns : goal.returns
returns g c =
    let cmp = g.K.Ord.cmp c.args.key.now in
    first-taken deref_pair c.range.result _ c.next.result c.next.ensures.steps
    ∙ ap first_of (c.range.ensures.between tt)
    ∙ find-filter (λ p. is_lt (cmp p.0)) (λ p. range_contains g.K.Ord.cmp (Excluded c.args.key.now)
    Unbounded p.0) (λ p. and-true (is_lt (cmp p.0))) c.args.map.now.entries
