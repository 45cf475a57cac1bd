-- By cases: no value at the key, a lesser one, or one as great.
use Rattle.std.proofs.Common.{◌≡◌, ◌∙◌, sym, ap, set, arith}
use Rattle.std.specs.List.{insert}
use Rattle.std.specs.Ordering.{is_gt}
use Rattle.std.specs.BTreeMap.{is_at}
use Rattle.std.specs.Map.{lookup}
use Rattle.std.specs.declared.cmp.Ordering.TheVariants.{Greater}
use Rattle.bufr_shelves.proofs.PairLemmas.{put-insert, put-same, changes_new, changes_old, gt-is}
use Rattle.bufr_shelves.proofs.PairLemmas.{only-value, no-value}
use Rattle.bufr_shelves.proofs.SortedLemmas.{lookup_there, lookup_nowhere, insert-place, put_at}
use Rattle.bufr_shelves.proofs.sorted_shelf.sorted.raise.Goals as goal

pub returns-then-not-greater-clause-changed : goal.returns-then-not-greater-clause-changed
returns-then-not-greater-clause-changed g c =
    let items = c.args.pairs.now.items in let cmp = g.K.Ord.cmp in
    changes_old cmp g.V.Ord.cmp c.args.key c.args.value c.index.result.now.1 items
    (lookup_there cmp g.met.K.Ord.total c.args.key items c.requires c.in-Ok.index
    c.index.result.now c.in-Ok.ensures.place
    (omega (arith, c.in-Ok.ensures.within)) c.index.ensures)
    (ap is_gt (sym (c.cmp.ensures ∙ ap (g.V.Ord.cmp c.args.value) c.value.ensures))
    ∙ sym c.is_gt-greater.ensures ∙ c.if-not-greater.true)

pub returns-then-not-greater-clause-ok : goal.returns-then-not-greater-clause-ok
returns-then-not-greater-clause-ok g c =
    let items = c.args.pairs.now.items in let cmp = g.K.Ord.cmp in
    sym (put-same cmp g.V.Ord.cmp g.met.K.Ord.total c.args.key c.args.value c.index.result.now.1
    items c.requires
    (lookup_there cmp g.met.K.Ord.total c.args.key items c.requires c.in-Ok.index
    c.index.result.now c.in-Ok.ensures.place
    (omega (arith, c.in-Ok.ensures.within)) c.index.ensures)
    (ap is_gt (sym (c.cmp.ensures ∙ ap (g.V.Ord.cmp c.args.value) c.value.ensures))
    ∙ sym c.is_gt-greater.ensures ∙ c.if-not-greater.true))

pub returns-else-not-greater-clause-changed : goal.returns-else-not-greater-clause-changed
returns-else-not-greater-clause-changed g c =
    let items = c.args.pairs.now.items in let cmp = g.K.Ord.cmp in
    changes_new cmp g.V.Ord.cmp g.met.K.Ord.total c.args.key c.args.value items c.requires
    (only-value (lookup (is_at (cmp c.args.key)) items) c.index.result.now.1
    (λ v. g.V.Ord.cmp c.args.value v ≡ Greater)
    (sym (lookup_there cmp g.met.K.Ord.total c.args.key items c.requires c.in-Ok.index
    c.index.result.now c.in-Ok.ensures.place
    (omega (arith, c.in-Ok.ensures.within)) c.index.ensures))
    (gt-is _ (ap is_gt (sym (c.cmp.ensures ∙ ap (g.V.Ord.cmp c.args.value) c.value.ensures))
    ∙ sym c.is_gt-greater.ensures ∙ c.if-not-greater.false)))

pub returns-else-not-greater-clause-ok : goal.returns-else-not-greater-clause-ok
returns-else-not-greater-clause-ok g c =
    let items = c.args.pairs.now.items in let cmp = g.K.Ord.cmp in
    ap (set items c.in-Ok.index) c.replace.ensures
    ∙ sym (put-insert cmp g.V.Ord.cmp g.met.K.Exact.exact c.args.key c.args.value items
    (only-value (lookup (is_at (cmp c.args.key)) items) c.index.result.now.1
    (λ v. g.V.Ord.cmp c.args.value v ≡ Greater)
    (sym (lookup_there cmp g.met.K.Ord.total c.args.key items c.requires c.in-Ok.index
    c.index.result.now c.in-Ok.ensures.place
    (omega (arith, c.in-Ok.ensures.within)) c.index.ensures))
    (gt-is _ (ap is_gt (sym (c.cmp.ensures ∙ ap (g.V.Ord.cmp c.args.value) c.value.ensures))
    ∙ sym c.is_gt-greater.ensures ∙ c.if-not-greater.false)))
    ∙ insert-place cmp g.met.K.Ord.total g.met.K.Exact.exact c.args.key c.args.value items
    ∙ ap (λ r. put_at r items (c.args.key, c.args.value)) (sym c.in-Ok.ensures.place))

pub returns-in_ok-insert-in-Err-clause-changed : goal.returns-in_ok-insert-in-Err-clause-changed
returns-in_ok-insert-in-Err-clause-changed g c =
    let items = c.args.pairs.now.items in let cmp = g.K.Ord.cmp in
    changes_new cmp g.V.Ord.cmp g.met.K.Ord.total c.args.key c.args.value items c.requires
    (no-value (lookup (is_at (cmp c.args.key)) items) (λ v. g.V.Ord.cmp c.args.value v ≡ Greater)
    (sym (lookup_nowhere cmp g.met.K.Ord.total c.args.key items c.requires c.in-Err.index
    c.in-Err.ensures.place)))

pub returns-in_ok-insert-in-Err-clause-ok : goal.returns-in_ok-insert-in-Err-clause-ok
returns-in_ok-insert-in-Err-clause-ok g c =
    let items = c.args.pairs.now.items in let cmp = g.K.Ord.cmp in
    c.in_ok-insert-in-Err.ensures.items
    ∙ ap (insert items c.in-Err.index) c.in_ok-new-in-Err.ensures
    ∙ sym (put-insert cmp g.V.Ord.cmp g.met.K.Exact.exact c.args.key c.args.value items
    (no-value (lookup (is_at (cmp c.args.key)) items) (λ v. g.V.Ord.cmp c.args.value v ≡ Greater)
    (sym (lookup_nowhere cmp g.met.K.Ord.total c.args.key items c.requires c.in-Err.index
    c.in-Err.ensures.place)))
    ∙ insert-place cmp g.met.K.Ord.total g.met.K.Exact.exact c.args.key c.args.value items
    ∙ ap (λ r. put_at r items (c.args.key, c.args.value)) (sym c.in-Err.ensures.place))
