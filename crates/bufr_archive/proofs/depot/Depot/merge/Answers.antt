-- The target's archive is taken out, merged into and put back.
use Rattle.std.proofs.Common.{◌≡◌, ◌∙◌, sym, ap, subst, set}
use Rattle.std.proofs.lemmas.List.{get_or-set_other}
use Rattle.bufr_gather.specs.Archives.{ArchiveView}
use Rattle.bufr_archive.specs.Holdings.{Holding, DepotView}
use Rattle.bufr_archive.specs.HeldSteps.{StepDoes, IsJoin, AreThere}
use Rattle.bufr_archive.specs.declared.steps.Step.{Step}
use Rattle.bufr_archive.proofs.DepotFacts.{is_below, read_is, is_under, self_joined, merged_back}
use Rattle.bufr_archive.proofs.DepotFacts.{still_back, both_merged}
use Rattle.bufr_archive.proofs.JoinFacts.{join_missing}
use Rattle.bufr_archive.proofs.depot.Depot.merge.Goals.{in-Ok, in-Err}
use Rattle.bufr_archive.proofs.depot.Depot.merge.Goals as goal

pub returns-in_err-find : goal.returns-in_err-find
returns-in_err-find g c =
    join_missing c.args.self.now c.args.from c.args.into c.in_err-find.field-0.0
    c.from_residual.result c.from_residual.ensures.1 c.in_err-find.ensures.missing

pub returns-then-from-into : goal.returns-then-from-into
returns-then-from-into g c =
    self_joined c.args.self.now c.args.from c.args.into c.in_ok-find.ensures.there
    c.if-from-into.true

pub index_mut-requires : goal.index_mut-requires
index_mut-requires g c =
    let there = c.in_ok-find.ensures.there in
    is_below c.args.self.now _ c.args.into _ there.target c.self.view_is c.self.inside.slots.ok.0
    there.target_there

pub index-requires : goal.index-requires
index-requires g c =
    let there = c.in_ok-find.ensures.there in
    is_below c.args.self.now _ c.args.from _ there.source c.self.view_is c.self.inside.slots.ok.0
    there.source_there

pub index_mut-requires-2 : goal.index_mut-requires-2
index_mut-requires-2 g c =
    let there = c.in_ok-find.ensures.there in
    is_below c.args.self.now _ c.args.into _ there.target c.self.view_is c.self.inside.slots.ok.0
    there.target_there

pub merge-merged-requires : goal.merge-merged-requires
merge-merged-requires g c =
    let d = c.args.self.now in
    let there = c.in_ok-find.ensures.there in
    let hs = c.self.inside.slots.items in
    let h2 = c.index.result.now in
    let k1 : Holding =
    record { archive = c.replace-archive.new.dest; framer = c.behind-self.inside.framer } in
    let target = read_is d _ c.args.into there.target c.index_mut.result.now c.self.view_is
    there.target_there c.index_mut.ensures.value in
    let source = read_is d _ c.args.from there.source h2 c.self.view_is there.source_there
    (c.index.ensures ∙ get_or-set_other hs c.args.into c.args.from k1 h2 c.if-from-into.false) in
    ap (λ (a : ArchiveView). a.tables) c.replace-archive.ensures.value
    ∙ ap (λ (k : Holding). k.archive.tables) (c.behind-self.view_is ∙ target)
    ∙ is_under d _ c.args.into there.target c.self.view_is there.target_there c.self.invariant
    ∙ sym (ap (λ (k : Holding). k.archive.tables) (c.behind-self-2.view_is ∙ source)
    ∙ is_under d _ c.args.from there.source c.self.view_is there.source_there c.self.invariant)

pub returns : goal.returns
returns g c =
    let d : DepotView =
    record { tables = c.self.inside.tables.now; slots = c.self.inside.slots.items } in
    let there = subst (λ (e : DepotView). AreThere e c.args.from c.args.into) (sym c.self.view_is)
    c.in_ok-find.ensures.there in
    let h = c.index_mut.result.now in
    let h2 = c.index.result.now in
    let h3 = c.index_mut-2.result.now in
    let k1 : Holding =
    record { archive = c.replace-archive.new.dest; framer = c.behind-self.inside.framer } in
    let k2 : Holding =
    record { archive = c.merge-merged.new.self; framer = c.behind-self-3.inside.framer } in
    let framer1 : k1.framer ≡ h.framer = ap (λ (k : Holding). k.framer) c.behind-self.view_is in
    let framer2 : k2.framer ≡ h3.framer = ap (λ (k : Holding). k.framer) c.behind-self-3.view_is in
    let old : c.replace-archive.result ≡ h.archive =
    c.replace-archive.ensures.value ∙ ap (λ (k : Holding). k.archive) c.behind-self.view_is in
    let new : DepotView = record d { slots = set (set d.slots c.args.into k1) c.args.into k2 } in
    subst (λ (e : DepotView). (step : Step) → IsJoin step c.args.from c.args.into
    → StepDoes e new step c.match-merged.result) c.self.view_is
    (λ step is. elim c.match-merged.branch [
      | in-Ok w ↦ subst (StepDoes d new step) (sym w.result-is)
          (merged_back d c.args.from c.args.into there c.if-from-into.false h h2 h3 k1 k2
          c.index_mut.ensures.value framer1 c.index.ensures c.index_mut-2.ensures.value framer2
          (w.in-Ok.ensures.ok ∙ both_merged c.replace-archive.result
          c.behind-self-2.inside.archive h.archive h2.archive old
          (ap (λ (k : Holding). k.archive) c.behind-self-2.view_is)) step is)
      | in-Err w ↦ subst (StepDoes d new step) (sym w.result-is)
          (still_back d c.args.from c.args.into there c.if-from-into.false h h2 h3 k1 k2
          c.index_mut.ensures.value framer1 c.index.ensures c.index_mut-2.ensures.value framer2
          (w.in-Err.ensures.err ∙ old) step is)
    ])
