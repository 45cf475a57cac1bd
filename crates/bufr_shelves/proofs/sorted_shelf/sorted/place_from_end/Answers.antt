-- A key above the last one goes after all.
use Rattle.std.proofs.Common.{◌≡◌, ◌∙◌, ◌+◌, ◌-◌, ◌<◌, ◌≤◌, length, get_or, take, drop, Some, Err}
use Rattle.std.proofs.Common.{slice_get, refl, sym, ap, subst, arith}
use Rattle.std.proofs.Math.Seq.{drop-length}
use Rattle.std.proofs.lemmas.Option.{slice_get_read}
use Rattle.std.specs.List.{AllByRecursion}
use Rattle.std.specs.declared.cmp.Ordering.TheVariants.{Less, Greater}
use Rattle.bufr_shelves.proofs.SortedLemmas.{narrow_up, place_between}
use Rattle.bufr_shelves.proofs.sorted_shelf.sorted.place_from_end.Goals as goal

pub returns-in-Greater-clause-place : goal.returns-in-Greater-clause-place
returns-in-Greater-clause-place g c =
    let items = c.args.pairs.now.items in
    let count = length items in
    let size : c.len-count.result ≡ count = omega arith in
    let some : 0 < count = omega arith in
    let last : count - 1 < count = omega arith in
    let here : slice_get items (count - 1) ≡ Some c.index.result.now =
    slice_get_read items count (count - 1) c.index.result.now refl last
    (c.index.ensures ∙ ap (λ n. get_or items (n - 1) c.index.result.now) size) in
    let above : AllByRecursion (λ p. g.K.Ord.cmp c.args.key.now p.0 ≡ Less) (drop count items) =
    subst (AllByRecursion (λ p. g.K.Ord.cmp c.args.key.now p.0 ≡ Less)) (sym (drop-length items))
    tt in
    let all : 0 ≤ count = omega arith in
    let same : count ≤ count = omega arith in
    let found =
    narrow_up g.K.Ord.cmp g.met.K.Ord.total c.args.key.now items 0 (count - 1) count
    c.index.result.now c.requires (record {
      ordered = all;
      within = same;
      below = tt;
      above = above;
    }) last here
    (ap (g.K.Ord.cmp c.args.key.now) (sym c.key.ensures) ∙ sym c.cmp.ensures ∙ c.in-Greater.is) in
    let is : count - 1 + 1 ≡ count = omega arith in
    ap Err size
    ∙ sym (place_between (g.K.Ord.cmp c.args.key.now) items count same
    (subst (λ n. AllByRecursion (λ p. g.K.Ord.cmp c.args.key.now p.0 ≡ Greater) (take n items)) is
    found.below) above)
