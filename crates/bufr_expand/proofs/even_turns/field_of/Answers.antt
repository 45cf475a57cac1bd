-- An element of either kind asks for its field.
use Rattle.std.proofs.Common.{◌≡◌, ℕ, List, [], ◌∷◌, false, sym, subst, ◌∙◌}
use Rattle.bufr_tables.specs.declared.element.Kind.TheVariants as kinds
use Rattle.bufr_tables.specs.Elements.{same_kind}
use Rattle.bufr_expand.specs.declared.node.Node.{Node}
use Rattle.bufr_expand.specs.declared.operators.Operators.{Operators}
use Rattle.bufr_expand.specs.declared.operators.Spec.{Spec}
use Rattle.bufr_expand.specs.OperatorsInForce.{effective}
use Rattle.bufr_expand.specs.EvenTurns.{BeginsFields}
use Rattle.bufr_expand.specs.Trees.{tree_of}
use Rattle.bufr_expand.proofs.PassFacts.{spec_ok}
use Rattle.bufr_expand.proofs.RunFacts.{no_count, element_begins, untouched_begins}
use Rattle.bufr_expand.proofs.even_turns.field_of.Goals as goal
use Rattle.bufr_expand.proofs.even_turns.field_of.Goals.{in-Element+in_ok-ok-in-Element}
use Rattle.bufr_expand.proofs.even_turns.field_of.Goals.{in-Untouched+in_ok-untouched-in-Untouched}

as_found : (node : Node) (q : Operators) (rest : List Node) (found pair : ℕ × Spec) → found ≡ pair
    → same_kind found.1.kind kinds.Count ≡ false
    → (same_kind pair.1.kind kinds.Count ≡ false → BeginsFields (tree_of (node ∷ rest)) q
    (record { fxy = pair.0; spec = pair.1 } ∷ []) (tree_of rest))
    → BeginsFields (tree_of (node ∷ rest)) q (record { fxy = found.0; spec = found.1 } ∷ [])
    (tree_of rest)
as_found node q rest found pair is kind begins =
    subst (λ (p : ℕ × Spec). BeginsFields (tree_of (node ∷ rest)) q
    (record { fxy = p.0; spec = p.1 } ∷ []) (tree_of rest)) (sym is)
    (begins (subst (λ (p : ℕ × Spec). same_kind p.1.kind kinds.Count ≡ false) is kind))

pub returns-in_default : goal.returns-in_default
returns-in_default c =
    let q = c.args.operators.now in
    let kind = no_count c.match-node.fxy.1.kind c.in_default.not-Count in
    elim c.match-node.branch [
      | in-Element+in_ok-ok-in-Element w ↦
          let o = w.in-Element in
          let spec = w.ok.ensures.value
          ∙ spec_ok w.effective.result (effective o.fxy o.element q)
          (λ e. e ≡ record { 0 = o.fxy }) w.effective.ensures in
          λ rest. as_found c.args.node q rest c.match-node.fxy _ w.fxy-is kind
          (λ other. rw o.is (element_begins o.fxy o.element rest q _
          (sym spec ∙ w.in_ok-ok-in-Element.was) other))
      | in-Untouched+in_ok-untouched-in-Untouched w ↦
          let o = w.in-Untouched in
          λ rest. as_found c.args.node q rest c.match-node.fxy _ w.fxy-is kind
          (λ other. rw o.is (untouched_begins o.fxy o.element rest q _
          (sym w.untouched.ensures ∙ w.in_ok-untouched-in-Untouched.was) other))
    ]
