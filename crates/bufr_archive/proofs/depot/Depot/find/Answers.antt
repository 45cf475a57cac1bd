use Rattle.std.proofs.Common.{◌∙◌, ◌<◌, subst}
use Rattle.bufr_archive.specs.Holdings.{DepotView}
use Rattle.bufr_archive.specs.HeldSteps.{AreThere}
use Rattle.bufr_archive.proofs.DepotFacts.{are_there}
use Rattle.bufr_archive.proofs.depot.Depot.find.Goals as goal

pub returns-clause-there : goal.returns-clause-there
returns-clause-there g c =
    let d : DepotView =
    record { tables = c.self.inside.tables.now; slots = c.self.inside.slots.items } in
    let count = c.len-count.ensures ∙ c.self.inside.slots.ok.0 in
    subst (λ (d : DepotView). AreThere d c.args.from c.args.into) c.self.view_is
    (are_there d c.args.from c.args.into
    (subst (λ n. c.args.from < n) count c.if-from-count.false)
    (subst (λ n. c.args.into < n) count c.if-into-count.false))
