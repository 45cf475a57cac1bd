-- The laws of templates from the laws of expansions.
use Rattle.std.proofs.Common.{◌≡◌, ℕ, List, Ok, Err, refl, sym, ap, subst, ◌∙◌}
use Rattle.bufr_base.specs.Answers.{result_map}
use Rattle.bufr_tables.specs.Entries.{Entries}
use Rattle.bufr_expand.specs.declared.node.Node.{Node}
use Rattle.bufr_expand.specs.declared.node.TemplateFault.{TemplateFault}
use Rattle.bufr_expand.specs.Expansion.{Expansion, expansion}
use Rattle.bufr_expand.specs.Flat.{IsTreeOf}
use Rattle.bufr_expand.specs.Trees.{Tree, tree_of}
use Rattle.bufr_expand.specs.TreeCodes.{tree_of-nodes_of}
use Rattle.bufr_expand.specs.Templates.{template, BuildsExactly, RefusesExactly}
use Rattle.bufr_expand.proofs.FlatFacts.{expands_exactly, expands_to_trees}
use Rattle.bufr_expand.proofs.FirstFaultFacts.{refuses_exactly}

nodes_found : (x : Expansion) (tree : Tree) → result_map tree_of x ≡ Ok tree → (nodes : List Node)
    × (x ≡ Ok nodes) × (tree_of nodes ≡ tree)
nodes_found (Ok nodes) tree e = (nodes, refl, cc)
nodes_found (Err fault) tree e = absurd cc

fault_found : (x : Expansion) (fault : TemplateFault) → result_map tree_of x ≡ Err fault
    → x ≡ Err fault
fault_found (Ok nodes) fault e = absurd cc
fault_found (Err other) fault e = cc

pub builds_exactly : (tables : Entries) (list : List ℕ) (tree : Tree)
    → BuildsExactly tables list tree
builds_exactly tables list tree = (there, back)
  where
    there : template tables list ≡ Ok tree → IsTreeOf tables list tree
    there e =
        let found = nodes_found (expansion tables list) tree e in
        let whole = found.1 ∙ ap (λ (ns : List Node). Ok ns)
        (sym (expands_to_trees tables list found.0 found.1)) in
        subst (IsTreeOf tables list) found.2
        ((expands_exactly tables list (tree_of found.0)).0 whole)

    back : IsTreeOf tables list tree → template tables list ≡ Ok tree
    back h = let found = (expands_exactly tables list tree).1 h in
        rw found (ap (λ (t : Tree). Ok t) (tree_of-nodes_of tree))

pub template_refuses : (tables : Entries) (list : List ℕ) (fault : TemplateFault)
    → RefusesExactly tables list fault
template_refuses tables list fault = (
  λ e. (refuses_exactly tables list fault).0 (fault_found (expansion tables list) fault e),
  λ h. let refused = (refuses_exactly tables list fault).1 h in rw refused refl,
)
