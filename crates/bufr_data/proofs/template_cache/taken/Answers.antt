use Rattle.std.proofs.Common.{◌≡◌, sym, subst, refl, arith}
use Rattle.std.proofs.lemmas.Grind.{common_steps}
use Rattle.bufr_data.specs.Kept.{IsOf}
use Rattle.bufr_data.proofs.KeptFacts.{kept_at, kept_left}
use Rattle.bufr_data.proofs.template_cache.taken.Goals as goal

pub returns-then-is-clause-are : goal.returns-then-is-clause-are
returns-then-is-clause-are g c =
    rw c.remove.ensures.items (kept_left c.args.tables.now _ c.loop-index.kept.items
    c.loop-index.invariant)

pub returns-then-is-clause-exact : goal.returns-then-is-clause-exact
returns-then-is-clause-exact g c =
    let own : IsOf c.args.tables.now c.remove.result =
    subst (IsOf c.args.tables.now) (sym c.remove.ensures.value)
    (kept_at c.args.tables.now _ c.loop-index.kept.items c.remove.result (omega arith)
    c.loop-index.invariant) in
    let same : c.remove.result.descriptors.value ≡ g.L.DescriptorList.listed c.args.list.now =
    grind (arith, common_steps) in
    rw (sym same, own) refl
