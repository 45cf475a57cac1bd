-- A tree is determined by its nodes in depth-first order: for what contracts see of a `Template`.
use Rattle.std.proofs.Common.{◌≡◌, ℕ, zero, suc, ◌≤◌, List, ◌++◌, length, take, drop, refl, ap}
use Rattle.std.proofs.Common.{arith, length-append}
use Rattle.std.proofs.lemmas.List.{take_at, drop_at}
use Rattle.std.specs.Coded.{Coded, code_by, coded_list}
use Rattle.bufr_expand.specs.declared.node.Node.{Node}
use Rattle.bufr_expand.specs.contracts.node.Node as node
use Rattle.bufr_expand.specs.Trees.{Tree, done, element, untouched, operator, repeated, delayed}
use Rattle.bufr_expand.specs.Trees.{nodes_of, tree_within, tree_of}

parted : (join : Tree → Tree → Tree) (body rest : Tree) (k : ℕ)
    → tree_within k (nodes_of body) ≡ body → tree_within k (nodes_of rest) ≡ rest
    → join (tree_within k (take (length (nodes_of body)) (nodes_of body ++ nodes_of rest)))
    (tree_within k (drop (length (nodes_of body)) (nodes_of body ++ nodes_of rest)))
    ≡ join body rest
parted join body rest k front back =
    rw (
      take_at (nodes_of body) (nodes_of rest) (length (nodes_of body)) refl,
      drop_at (nodes_of body) (nodes_of rest) (length (nodes_of body)) refl,
      front,
      back,
    ) refl

pub tree_within-nodes_of : (t : Tree) (k : ℕ) → length (nodes_of t) ≤ k
    → tree_within k (nodes_of t) ≡ t
unfolding nodes_of tree_within
tree_within-nodes_of done zero h = refl
tree_within-nodes_of done (suc k) h = refl
tree_within-nodes_of (element d e rest) zero h = absurd (omega arith)
tree_within-nodes_of (element d e rest) (suc k) h =
    ap (element d e) (tree_within-nodes_of rest k (omega arith))
tree_within-nodes_of (untouched d e rest) zero h = absurd (omega arith)
tree_within-nodes_of (untouched d e rest) (suc k) h =
    ap (untouched d e) (tree_within-nodes_of rest k (omega arith))
tree_within-nodes_of (operator d rest) zero h = absurd (omega arith)
tree_within-nodes_of (operator d rest) (suc k) h =
    ap (operator d) (tree_within-nodes_of rest k (omega arith))
tree_within-nodes_of (repeated n body rest) zero h = absurd (omega arith)
tree_within-nodes_of (repeated n body rest) (suc k) h =
    let both = length-append (nodes_of body) (nodes_of rest) in
    parted (repeated n) body rest k (tree_within-nodes_of body k (omega arith))
    (tree_within-nodes_of rest k (omega arith))
tree_within-nodes_of (delayed d e body rest) zero h = absurd (omega arith)
tree_within-nodes_of (delayed d e body rest) (suc k) h =
    let both = length-append (nodes_of body) (nodes_of rest) in
    parted (delayed d e) body rest k (tree_within-nodes_of body k (omega arith))
    (tree_within-nodes_of rest k (omega arith))

-- the tree of a tree's nodes is that tree
pub tree_of-nodes_of : (t : Tree) → tree_of (nodes_of t) ≡ t
tree_of-nodes_of t = tree_within-nodes_of t (length (nodes_of t)) (omega arith)

-- the code of trees by their nodes
abbrev pub tree_code : Coded Tree
tree_code = code_by (List Node) (coded_list node.the_row.coded) nodes_of tree_of tree_of-nodes_of
