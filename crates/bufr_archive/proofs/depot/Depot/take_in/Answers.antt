use Rattle.std.proofs.Common.{◌≡◌, ◌<◌, Some, sym, subst, refl, set, length}
use Rattle.std.specs.Prelude.{slice_get}
use Rattle.std.proofs.lemmas.Option.{slice_get_read}
use Rattle.bufr_archive.specs.Holdings.{Holding, DepotView}
use Rattle.bufr_archive.specs.HeldSteps.{TakesIn}
use Rattle.bufr_archive.proofs.DepotFacts.{held_merged, held_still, took_all, took_nothing}
use Rattle.bufr_archive.proofs.depot.Depot.take_in.Goals.{in-Ok, in-Err}
use Rattle.bufr_archive.proofs.depot.Depot.take_in.Goals as goal

pub returns : goal.returns
returns g c =
    let d : DepotView =
    record { tables = c.self.inside.tables.now; slots = c.self.inside.slots.items } in
    let h = c.index_mut.result.now in
    let a = c.args.archive.now in
    let below : c.args.into < length d.slots =
    subst (λ (e : DepotView). c.args.into < length e.slots) (sym c.self.view_is) c.requires.there in
    let at : slice_get d.slots c.args.into ≡ Some h =
    slice_get_read d.slots (length d.slots) c.args.into h refl below c.index_mut.ensures.value in
    let k : Holding = record { archive = c.merge.new.self; framer = c.behind-self.inside.framer } in
    subst (λ (e : DepotView). TakesIn e
    (record d { slots = set d.slots c.args.into k }) c.args.into a c.match-merge.result)
    c.self.view_is
    (elim c.match-merge.branch [
      | in-Ok w ↦
          subst (TakesIn d (record d { slots = set d.slots c.args.into k }) c.args.into a)
          (sym w.result-is)
          (took_all d c.args.into h k a at
          (held_merged c.behind-self.inside.archive c.merge.new.self a c.behind-self.inside.framer h
          c.behind-self.view_is w.in-Ok.ensures.ok))
      | in-Err w ↦
          subst (TakesIn d (record d { slots = set d.slots c.args.into k }) c.args.into a)
          (sym w.result-is)
          (took_nothing d c.args.into h k a at
          (held_still c.behind-self.inside.archive c.merge.new.self c.behind-self.inside.framer h
          c.behind-self.view_is w.in-Err.ensures.err))
    ])
