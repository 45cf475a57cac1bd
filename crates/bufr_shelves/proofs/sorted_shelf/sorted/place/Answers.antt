-- Each round halves the pairs between the bounds.
use Rattle.std.proofs.Common.{◌≡◌, ◌∙◌, ◌+◌, ◌-◌, ◌/◌, ◌<◌, ◌≤◌, length, drop, Some, slice_get}
use Rattle.std.proofs.Common.{refl, sym, ap, subst, arith}
use Rattle.std.proofs.lemmas.Option.{slice_get_read}
use Rattle.std.specs.List.{AllByRecursion}
use Rattle.std.specs.declared.cmp.Ordering.TheVariants.{Less}
use Rattle.bufr_shelves.proofs.SortedLemmas.{narrow_up, narrow_down, place_equal, place_between}
use Rattle.bufr_shelves.proofs.sorted_shelf.sorted.place.Goals as goal

pub loop-low-preserved-in-Less : goal.loop-low-preserved-in-Less
loop-low-preserved-in-Less g c =
    let items = c.args.pairs.now.items in
    let middle = c.loop-low.low + (c.loop-low.high - c.loop-low.low) / 2 in
    let lt : middle < c.loop-low.high = omega arith in
    let size : c.loop-low.high ≤ length items = c.loop-low.invariant.within in
    let here : slice_get items middle ≡ Some c.index.result.now =
    slice_get_read items (length items) middle c.index.result.now refl (omega arith)
    c.index.ensures in
    narrow_down g.K.Ord.cmp g.met.K.Ord.total c.args.key.now items c.loop-low.low middle
    c.loop-low.high c.index.result.now c.requires c.loop-low.invariant (omega arith) lt here
    (sym (c.in-Less.ensures ∙ ap (g.K.Ord.cmp c.args.key.now) c.key.ensures))

pub returns-in-Equal-clause-place : goal.returns-in-Equal-clause-place
returns-in-Equal-clause-place g c =
    let items = c.args.pairs.now.items in
    let middle = c.loop-low.low + (c.loop-low.high - c.loop-low.low) / 2 in
    let size : c.loop-low.high ≤ length items = c.loop-low.invariant.within in
    let here : slice_get items middle ≡ Some c.index.result.now =
    slice_get_read items (length items) middle c.index.result.now refl (omega arith)
    c.index.ensures in
    sym (place_equal g.K.Ord.cmp g.met.K.Ord.total c.args.key.now items middle c.index.result.now
    c.requires here (sym (c.in-Equal.ensures ∙ ap (g.K.Ord.cmp c.args.key.now) c.key.ensures)))

pub loop-low-preserved : goal.loop-low-preserved
loop-low-preserved g c =
    let items = c.args.pairs.now.items in
    let middle = c.loop-low.low + (c.loop-low.high - c.loop-low.low) / 2 in
    let lt : middle < c.loop-low.high = omega arith in
    let size : c.loop-low.high ≤ length items = c.loop-low.invariant.within in
    let here : slice_get items middle ≡ Some c.index.result.now =
    slice_get_read items (length items) middle c.index.result.now refl (omega arith)
    c.index.ensures in
    narrow_up g.K.Ord.cmp g.met.K.Ord.total c.args.key.now items c.loop-low.low middle
    c.loop-low.high c.index.result.now c.requires c.loop-low.invariant lt here
    (sym (c.in-Greater.ensures ∙ ap (g.K.Ord.cmp c.args.key.now) c.key.ensures))

pub returns-clause-place : goal.returns-clause-place
returns-clause-place g c =
    let items = c.args.pairs.now.items in
    let size : c.loop-low.high ≤ length items = c.loop-low.invariant.within in
    let order : c.loop-low.low ≤ c.loop-low.high = c.loop-low.invariant.ordered in
    let met : c.loop-low.high ≡ c.loop-low.low = omega arith in
    sym (place_between (g.K.Ord.cmp c.args.key.now) items c.loop-low.low (omega arith)
    c.loop-low.invariant.below
    (subst (λ n. AllByRecursion (λ p. g.K.Ord.cmp c.args.key.now p.0 ≡ Less) (drop n items)) met
    c.loop-low.invariant.above))
