-- A node with a spec that is no count is a run of one field.
use Rattle.std.proofs.Common.{◌≡◌, ◌∷◌, Option, Some, List, refl, sym, ap, ◌∙◌}
use Rattle.bufr_expand.specs.declared.node.Node.{Node}
use Rattle.bufr_expand.specs.declared.operators.Spec.{Spec}
use Rattle.bufr_expand.specs.OperatorsInForce.{effective}
use Rattle.bufr_expand.specs.Runs.{BeginsRun, IsFieldRun, field_run}
use Rattle.bufr_expand.specs.Trees.{tree_of}
use Rattle.bufr_expand.proofs.PassFacts.{spec_ok}
use Rattle.bufr_expand.proofs.RunFacts.{no_count, begins_element, begins_untouched}
use Rattle.bufr_expand.proofs.run.element_bits.Goals as goal
use Rattle.bufr_expand.proofs.run.element_bits.Goals.{in-Element+in_ok-spec-in-Element}
use Rattle.bufr_expand.proofs.run.element_bits.Goals.{in-Untouched+in_ok-spec-in-Untouched}

pub returns-in_default : goal.returns-in_default
returns-in_default c =
    let q = c.args.operators.now in
    let spec = c.match-node.spec in
    let run : (found : Option Spec) → found ≡ Some spec → IsFieldRun found (field_run spec.width) =
    λ found is. (spec, is, no_count spec.kind c.in_default.not-Count, refl) in
    elim c.match-node.branch [
      | in-Element+in_ok-spec-in-Element w ↦
          let o = w.in-Element in
          let is = w.ok.ensures.value
          ∙ spec_ok w.effective.result (effective o.fxy o.element q)
          (λ e. e ≡ record { 0 = o.fxy }) w.effective.ensures in
          let has : (rest : List Node) → BeginsRun (tree_of (c.args.node.now ∷ rest)) q
          (field_run spec.width) (tree_of rest) =
          λ rest. rw o.is (begins_element o.fxy o.element rest q _
          (run _ (sym is ∙ w.in_ok-spec-in-Element.was ∙ ap Some (sym w.spec-is)))) in has
      | in-Untouched+in_ok-spec-in-Untouched w ↦
          let o = w.in-Untouched in
          let has : (rest : List Node) → BeginsRun (tree_of (c.args.node.now ∷ rest)) q
          (field_run spec.width) (tree_of rest) =
          λ rest. rw o.is (begins_untouched o.field-0 o.element rest q _
          (run _ (sym w.untouched.ensures ∙ w.in_ok-spec-in-Untouched.was
          ∙ ap Some (sym w.spec-is)))) in has
    ]
