-- By cases: no value at the key, a lesser one, or one as great.
use Rattle.std.proofs.Common.{◌≡◌, ◌∙◌, sym, ap}
use Rattle.std.specs.Option.{option_copied}
use Rattle.std.specs.Ordering.{is_gt}
use Rattle.std.specs.BTreeMap.{is_at}
use Rattle.std.specs.Map.{lookup}
use Rattle.std.specs.declared.cmp.Ordering.TheVariants.{Greater}
use Rattle.bufr_shelves.proofs.PairLemmas.{put-insert, put-same, changes_new, changes_old, gt-is}
use Rattle.bufr_shelves.proofs.PairLemmas.{only-value, no-value}
use Rattle.bufr_shelves.proofs.map_shelf.raise.raise.Goals as goal
use Rattle.bufr_shelves.proofs.map_shelf.raise.raise.Goals.{in-Some+else-not-greater, in_default}

pub returns-then-not-greater-clause-changed : goal.returns-then-not-greater-clause-changed
returns-then-not-greater-clause-changed g c =
    changes_old g.K.Ord.cmp g.V.Ord.cmp c.args.key c.args.value c.in-Some.old.now
    c.args.map.now.entries (sym c.in-Some.ensures.value)
    (ap is_gt (sym c.cmp.ensures) ∙ sym c.is_gt-greater.ensures ∙ c.if-not-greater.true)

pub returns-then-not-greater-clause-ok : goal.returns-then-not-greater-clause-ok
returns-then-not-greater-clause-ok g c =
    sym (put-same g.K.Ord.cmp g.V.Ord.cmp g.met.K.Ord.total c.args.key c.args.value
    c.in-Some.old.now c.args.map.now.entries c.len-size.ensures.ordered
    (sym c.in-Some.ensures.value)
    (ap is_gt (sym c.cmp.ensures) ∙ sym c.is_gt-greater.ensures ∙ c.if-not-greater.true))

pub returns-clause-changed : goal.returns-clause-changed
returns-clause-changed g c =
    changes_new g.K.Ord.cmp g.V.Ord.cmp g.met.K.Ord.total c.args.key c.args.value
    c.args.map.now.entries c.len-size.ensures.ordered
    (elim c.match-get.branch [
      | in-Some+else-not-greater w ↦ only-value
          (lookup (is_at (g.K.Ord.cmp c.args.key)) c.args.map.now.entries) w.in-Some.old.now
          (λ v. g.V.Ord.cmp c.args.value v ≡ Greater) w.in-Some.ensures.value
          (gt-is _ (ap is_gt (sym w.cmp.ensures) ∙ sym w.is_gt-greater.ensures
          ∙ w.if-not-greater.false))
      | in_default w ↦ no-value (lookup (is_at (g.K.Ord.cmp c.args.key)) c.args.map.now.entries)
          (λ v. g.V.Ord.cmp c.args.value v ≡ Greater)
          (sym (ap option_copied w.in_default.is) ∙ c.get.ensures.value)
    ])

pub returns-clause-ok : goal.returns-clause-ok
returns-clause-ok g c =
    c.in_ok-insert.ensures.entries
    ∙ sym (put-insert g.K.Ord.cmp g.V.Ord.cmp g.met.K.Exact.exact c.args.key c.args.value
    c.args.map.now.entries
    (elim c.match-get.branch [
      | in-Some+else-not-greater w ↦ only-value
          (lookup (is_at (g.K.Ord.cmp c.args.key)) c.args.map.now.entries) w.in-Some.old.now
          (λ v. g.V.Ord.cmp c.args.value v ≡ Greater) w.in-Some.ensures.value
          (gt-is _ (ap is_gt (sym w.cmp.ensures) ∙ sym w.is_gt-greater.ensures
          ∙ w.if-not-greater.false))
      | in_default w ↦ no-value (lookup (is_at (g.K.Ord.cmp c.args.key)) c.args.map.now.entries)
          (λ v. g.V.Ord.cmp c.args.value v ≡ Greater)
          (sym (ap option_copied w.in_default.is) ∙ c.get.ensures.value)
    ]))
