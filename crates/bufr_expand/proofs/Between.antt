-- The tree of the nodes from one index to another.
use Rattle.std.proofs.Common.{◌≡◌, ℕ, zero, suc, ◌+◌, ◌-◌, ◌<◌, ◌≤◌, min, List, [], ◌∷◌, length}
use Rattle.std.proofs.Common.{get_or, take, drop, refl, ap, arith, inl, inr}
use Rattle.std.proofs.lemmas.List.{take-take, take_all, drop-drop, drop-take, drop_more, drop_all}
use Rattle.std.proofs.lemmas.List.{length-take, length-drop}
use Rattle.std.proofs.lemmas.Bool.{cases_lt}
use Rattle.bufr_tables.specs.declared.element.Element.{Element}
use Rattle.bufr_expand.specs.declared.node.Node.{Node}
use Rattle.bufr_expand.specs.declared.node.Node.TheVariants as nodes
use Rattle.bufr_expand.specs.Trees.{Tree, done, element, untouched, operator, repeated, delayed}
use Rattle.bufr_expand.specs.Trees.{tree_within, tree_of}
use Rattle.bufr_expand.specs.Walks.{tree_between}

pub enough : (k m : ℕ) (ns : List Node) → length ns ≤ k → length ns ≤ m
    → tree_within k ns ≡ tree_within m ns
unfolding tree_within
enough zero zero ns h g = refl
enough zero (suc m) [] h g = refl
enough zero (suc m) (n ∷ ns) h g = absurd (omega arith)
enough (suc k) zero [] h g = refl
enough (suc k) zero (n ∷ ns) h g = absurd (omega arith)
enough (suc k) (suc m) [] h g = refl
enough (suc k) (suc m) (nodes.Element d e ∷ ns) h g =
    ap (element d e) (enough k m ns (omega arith) (omega arith))
enough (suc k) (suc m) (nodes.Untouched d e ∷ ns) h g =
    ap (untouched d e) (enough k m ns (omega arith) (omega arith))
enough (suc k) (suc m) (nodes.Operator d ∷ ns) h g =
    ap (operator d) (enough k m ns (omega arith) (omega arith))
enough (suc k) (suc m) (nodes.Repeated times len ∷ ns) h g =
    let t = length-take len ns in
    let d = length-drop len ns in
    rw (
      enough k m (take len ns) (omega arith) (omega arith),
      enough k m (drop len ns) (omega arith) (omega arith),
    ) refl
enough (suc k) (suc m) (nodes.Delayed f e len ∷ ns) h g =
    let t = length-take len ns in
    let d = length-drop len ns in
    rw (
      enough k m (take len ns) (omega arith) (omega arith),
      enough k m (drop len ns) (omega arith) (omega arith),
    ) refl

body_apart : (join : Tree → Tree → Tree) (len : ℕ) (ns : List Node)
    → join (tree_within (length ns) (take len ns)) (tree_within (length ns) (drop len ns))
    ≡ join (tree_of (take len ns)) (tree_of (drop len ns))
body_apart join len ns =
    let t = length-take len ns in
    let d = length-drop len ns in
    rw (
      enough (length ns) (length (take len ns)) (take len ns) (omega arith) (omega arith),
      enough (length ns) (length (drop len ns)) (drop len ns) (omega arith) (omega arith),
    ) refl

pub tree_of-repeated : (times len : ℕ) (ns : List Node)
    → tree_of (nodes.Repeated times len ∷ ns)
    ≡ repeated times (tree_of (take len ns)) (tree_of (drop len ns))
unfolding tree_within
tree_of-repeated times len ns = body_apart (repeated times) len ns

pub tree_of-delayed : (d : ℕ) (e : Element) (len : ℕ) (ns : List Node)
    → tree_of (nodes.Delayed d e len ∷ ns)
    ≡ delayed d e (tree_of (take len ns)) (tree_of (drop len ns))
unfolding tree_within
tree_of-delayed d e len ns = body_apart (delayed d e) len ns

pub tree_between-none : (ns : List Node) (i j : ℕ) → j ≤ i → tree_between ns i j ≡ done
unfolding tree_within
tree_between-none ns i j h = let e : j - i ≡ 0 = omega arith in rw e refl

pub tree_between-all : (ns : List Node) → tree_between ns 0 (length ns) ≡ tree_of ns
tree_between-all ns = let e : length ns - 0 ≡ length ns = omega arith in
    rw (e, take_all (length ns) ns (omega arith)) refl

pub between-step : (ns : List Node) (i j : ℕ) (d : Node) → i < j → j ≤ length ns
    → take (j - i) (drop i ns) ≡ get_or ns i d ∷ take (j - (i + 1)) (drop (i + 1) ns)
between-step ns i j d h g =
    let inside : i < length ns = omega arith in
    let e : j - i ≡ suc (j - (i + 1)) = omega arith in
    rw (e, drop_more ns i d inside) refl

pub between-parts : (ns : List Node) (p j len : ℕ) → p ≤ j
    → (take len (take (j - p) (drop p ns)) ≡ take ((p + min len (j - p)) - p) (drop p ns))
    × (drop len (take (j - p) (drop p ns))
    ≡ take (j - (p + min len (j - p))) (drop (p + min len (j - p)) ns))
between-parts ns p j len h =
    elim (cases_lt (j - p) len) [
      | inl s ↦
          let body : (p + min len (j - p)) - p ≡ j - p = omega arith in
          let rest : j - (p + min len (j - p)) ≡ 0 = omega arith in
          let t = length-take (j - p) (drop p ns) in (
            rw body (take_all len (take (j - p) (drop p ns)) (omega arith)),
            rw (rest, drop_all len (take (j - p) (drop p ns)) (omega arith)) refl,
          )
      | inr s ↦
          let body : (p + min len (j - p)) - p ≡ len = omega arith in
          let all : min len (j - p) ≡ len = omega arith in
          let more : j - p ≡ len + (j - (p + len)) = omega arith in (
            rw body (take-take len (j - p) (drop p ns) s),
            rw (
              all,
              more,
              drop-take len (j - (p + len)) (drop p ns),
              drop-drop len p ns,
            ) refl,
          )
    ]
