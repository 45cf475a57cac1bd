-- The tree of a list of descriptors, by cases on the list (FM 94 BUFR, regulations 94.5.3 to
-- 94.5.5; Table C).
use Rattle.std.specs.Prelude.{◌≡◌, ◌≢◌, ◌≤◌, ◌<◌, ◌⊎◌, ◌↔◌, ℕ, suc, ◌+◌, List, [], ◌∷◌, ◌++◌}
use Rattle.std.specs.Prelude.{length, Some, Ok, pos}
use Rattle.bufr_tables.specs.declared.element.Element.{Element}
use Rattle.bufr_tables.specs.declared.element.Kind.TheVariants as kinds
use Rattle.bufr_tables.specs.Descriptors.{f_of, x_of, y_of, descriptor}
use Rattle.bufr_tables.specs.Entries.{Entries, element, sequence}
use Rattle.bufr_expand.specs.Limits.{most_nodes, most_number_bits, most_factor_bits}
use Rattle.bufr_expand.specs.Limits.{most_sequence_levels, most_replication_levels, most_lists}
use Rattle.bufr_expand.specs.declared.node.Node.{Node}
use Rattle.bufr_expand.specs.Expansion.{text_of_characters, local_number, expand_within, expansion}
use Rattle.bufr_expand.specs.Trees as trees
use Rattle.bufr_expand.specs.Trees.{Tree, nodes_of, tree_of}

-- a tree after another
unfoldable pub followed_by : Tree → Tree → Tree
followed_by trees.done next = next
followed_by (trees.element fxy row rest) next = trees.element fxy row (followed_by rest next)
followed_by (trees.untouched fxy row rest) next = trees.untouched fxy row (followed_by rest next)
followed_by (trees.operator fxy rest) next = trees.operator fxy (followed_by rest next)
followed_by (trees.repeated times body rest) next =
    trees.repeated times body (followed_by rest next)
followed_by (trees.delayed fxy row body rest) next =
    trees.delayed fxy row body (followed_by rest next)

-- an operator that stays in force: 201 "change data width", 202 "change scale", 207 "increase
-- scale, reference value and data width" or 208 "change width of CCITT IA5 field" (Table C)
abbrev pub StaysInForce : ℕ → Type 0
StaysInForce x = (x ≡ 1) ⊎ (x ≡ 2) ⊎ (x ≡ 7) ⊎ (x ≡ 8)

-- a delayed replication factor: 031000, 031001 or 031002 (Table B, class 31)
abbrev pub IsFactor : ℕ → Type 0
IsFactor fxy = (descriptor 0 31 0 ≤ fxy) × (fxy ≤ descriptor 0 31 2)

-- a row of Table B that a factor can have: a number of 1 to 16 bits without scale and reference
-- value
abbrev pub IsCountRow : Element → Type 0
IsCountRow row = (row.kind ≢ kinds.Text) × (row.scale ≡ pos 0) × (row.reference ≡ pos 0)
    × (1 ≤ row.width) × (row.width ≤ most_factor_bits)

-- the row of an element of y bits after 206: its row of Table B if that has this width, else a
-- plain number of at most 63 bits (Table C, 206)
pub data ReadAt : Entries → ℕ → ℕ → Element → Type 0 where
  by_row : {tables : Entries} {fxy y : ℕ} {row : Element} → element tables fxy ≡ Some row
      → row.width ≡ y → ReadAt tables fxy y row
  as_number : {tables : Entries} {fxy y : ℕ}
      → ((row : Element) → element tables fxy ≡ Some row → row.width ≢ y) → y ≤ most_number_bits
      → ReadAt tables fxy y (local_number y)

-- a list has a tree, within the levels of sequences and replications still allowed
pub data Flat : (tables : Entries) (sequences replications : ℕ) (list : List ℕ) (tree : Tree)
    → Type 0 where
  -- the empty list has the empty tree
  nothing : {tables : Entries} {sequences replications : ℕ}
      → Flat tables sequences replications [] trees.done
  -- an element of Table B is one node, and then comes the tree of the rest
  element_first : {tables : Entries} {sequences replications fxy : ℕ} {row : Element}
      {behind : List ℕ} {rest : Tree} → f_of fxy ≡ 0 → element tables fxy ≡ Some row
      → Flat tables sequences replications behind rest
      → Flat tables sequences replications (fxy ∷ behind) (trees.element fxy row rest)
  -- an operator that stays in force is one node
  operator_first : {tables : Entries} {sequences replications fxy : ℕ} {behind : List ℕ}
      {rest : Tree} → f_of fxy ≡ 2 → StaysInForce (x_of fxy)
      → Flat tables sequences replications behind rest
      → Flat tables sequences replications (fxy ∷ behind) (trees.operator fxy rest)
  -- "signify character" (205) is a text of Y characters
  text_first : {tables : Entries} {sequences replications fxy : ℕ} {behind : List ℕ} {rest : Tree}
      → f_of fxy ≡ 2 → x_of fxy ≡ 5 → 0 < y_of fxy → Flat tables sequences replications behind rest
      → Flat tables sequences replications (fxy ∷ behind)
      (trees.untouched fxy (text_of_characters (y_of fxy)) rest)
  -- "signify data width for the immediately following local descriptor" (206) and the element after
  -- it are one node
  width_first : {tables : Entries} {sequences replications fxy local : ℕ} {row : Element}
      {behind : List ℕ} {rest : Tree} → f_of fxy ≡ 2 → x_of fxy ≡ 6 → 0 < y_of fxy → f_of local ≡ 0
      → ReadAt tables local (y_of fxy) row → Flat tables sequences replications behind rest
      → Flat tables sequences replications (fxy ∷ local ∷ behind) (trees.untouched local row rest)
  -- a sequence is the tree of its list in Table D, and then comes the tree of the rest (94.5.3)
  sequence_first : {tables : Entries} {sequences replications fxy : ℕ} {list behind : List ℕ}
      {inner rest : Tree} → 3 ≤ f_of fxy → sequence tables fxy ≡ Some list
      → Flat tables sequences replications list inner
      → Flat tables (suc sequences) replications behind rest
      → Flat tables (suc sequences) replications (fxy ∷ behind) (followed_by inner rest)
  -- a replication is one node, with the tree of the next X descriptors as its body (94.5.4)
  repeated_first : {tables : Entries} {sequences replications fxy : ℕ} {body behind : List ℕ}
      {inner rest : Tree} → f_of fxy ≡ 1 → 0 < x_of fxy → 0 < y_of fxy → length body ≡ x_of fxy
      → Flat tables sequences replications body inner
      → Flat tables sequences (suc replications) behind rest
      → Flat tables sequences (suc replications) (fxy ∷ body ++ behind)
      (trees.repeated (y_of fxy) inner rest)
  -- with Y = 0 the factor comes first, and then the X descriptors of the body (94.5.4.2)
  delayed_first : {tables : Entries} {sequences replications fxy factor : ℕ} {row : Element}
      {body behind : List ℕ} {inner rest : Tree} → f_of fxy ≡ 1 → 0 < x_of fxy → y_of fxy ≡ 0
      → IsFactor factor → element tables factor ≡ Some row → IsCountRow row → length body ≡ x_of fxy
      → Flat tables sequences replications body inner
      → Flat tables sequences (suc replications) behind rest
      → Flat tables sequences (suc replications) (fxy ∷ factor ∷ body ++ behind)
      (trees.delayed factor row inner rest)

-- a tree of the list, within the limits of levels and of nodes
abbrev pub IsTreeOf : Entries → List ℕ → Tree → Type 0
IsTreeOf tables list tree =
    Flat tables most_sequence_levels most_replication_levels list tree
    × (length (nodes_of tree) ≤ most_nodes)

-- the expansion is the nodes of a tree exactly if the list has this tree
abbrev pub ExpandsExactly : Entries → List ℕ → Tree → Type 0
ExpandsExactly tables list tree = (expansion tables list ≡ Ok (nodes_of tree))
    ↔ IsTreeOf tables list tree

-- every expansion is the nodes of some tree
abbrev pub ExpandsToTrees : Entries → List ℕ → List Node → Type 0
ExpandsToTrees tables list ns = expansion tables list ≡ Ok ns → nodes_of (tree_of ns) ≡ ns

-- a list has at most one tree
abbrev pub HasOneTree : Entries → List ℕ → Tree → Tree → Type 0
HasOneTree tables list a b = IsTreeOf tables list a → IsTreeOf tables list b → a ≡ b

-- the lists that an expansion may have open are enough: more change nothing
abbrev pub HasEnoughLevels : Entries → List ℕ → ℕ → Type 0
HasEnoughLevels tables list more =
    expand_within (most_lists + more) tables most_sequence_levels most_replication_levels 0 list
    ≡ expansion tables list
