-- The first fault of a list of descriptors in depth-first order, by cases on the list (FM 94 BUFR,
-- regulations 94.5.3 to 94.5.5; Table C). A list has either a tree within the limits or a first
-- fault.
use Rattle.std.specs.Prelude.{◌≡◌, ◌≢◌, ◌≤◌, ◌<◌, ◌⊎◌, ◌↔◌, ℕ, zero, suc, ◌+◌, List, [], ◌∷◌, ◌++◌}
use Rattle.std.specs.Prelude.{length, Some, None, Err}
use Rattle.bufr_tables.specs.declared.element.Element.{Element}
use Rattle.bufr_tables.specs.Descriptors.{f_of, x_of, y_of}
use Rattle.bufr_tables.specs.Entries.{Entries, element, sequence}
use Rattle.bufr_expand.specs.Limits.{most_nodes, most_number_bits}
use Rattle.bufr_expand.specs.Limits.{most_sequence_levels, most_replication_levels}
use Rattle.bufr_expand.specs.declared.node.TemplateFault.{TemplateFault}
use Rattle.bufr_expand.specs.declared.node.TemplateFault.TheVariants.{UnknownElement}
use Rattle.bufr_expand.specs.declared.node.TemplateFault.TheVariants.{UnknownSequence}
use Rattle.bufr_expand.specs.declared.node.TemplateFault.TheVariants.{UnsupportedOperator}
use Rattle.bufr_expand.specs.declared.node.TemplateFault.TheVariants.{BadReplication, BadFactor}
use Rattle.bufr_expand.specs.declared.node.TemplateFault.TheVariants.{BadOperand, Dangling206}
use Rattle.bufr_expand.specs.declared.node.TemplateFault.TheVariants.{TooDeep, TooManyNodes}
use Rattle.bufr_expand.specs.Expansion.{expansion}
use Rattle.bufr_expand.specs.Flat.{Flat, StaysInForce, IsFactor, IsCountRow, ReadAt, IsTreeOf}
use Rattle.bufr_expand.specs.Trees.{Tree, nodes_of}

-- ---- at one descriptor

-- the fault X1 to X7 of a descriptor that begins no tree, given those after it in the same list
pub data HasNoCase : Entries → ℕ → List ℕ → TemplateFault → Type 0 where
  -- X1: Table B lacks the element
  unknown_element : {tables : Entries} {fxy : ℕ} {behind : List ℕ} → f_of fxy ≡ 0
      → element tables fxy ≡ None → HasNoCase tables fxy behind (UnknownElement fxy)
  -- X2: Table D lacks the sequence
  unknown_sequence : {tables : Entries} {fxy : ℕ} {behind : List ℕ} → 3 ≤ f_of fxy
      → sequence tables fxy ≡ None → HasNoCase tables fxy behind (UnknownSequence fxy)
  -- X3: an operator other than 201, 202, 205, 206, 207 and 208
  unsupported_operator : {tables : Entries} {fxy : ℕ} {behind : List ℕ} → f_of fxy ≡ 2
      → (StaysInForce (x_of fxy) → ⊥) → x_of fxy ≢ 5 → x_of fxy ≢ 6
      → HasNoCase tables fxy behind (UnsupportedOperator fxy)
  -- X4: a replication of no descriptor
  replicates_none : {tables : Entries} {fxy : ℕ} {behind : List ℕ} → f_of fxy ≡ 1 → x_of fxy ≡ 0
      → HasNoCase tables fxy behind (BadReplication fxy)
  -- X4: a replication by a factor, with nothing after it
  without_factor : {tables : Entries} {fxy : ℕ} → f_of fxy ≡ 1 → y_of fxy ≡ 0
      → HasNoCase tables fxy [] (BadReplication fxy)
  -- X5: the next descriptor is no factor
  not_a_factor : {tables : Entries} {fxy factor : ℕ} {behind : List ℕ} → f_of fxy ≡ 1 → 0 < x_of fxy
      → y_of fxy ≡ 0 → (IsFactor factor → ⊥)
      → HasNoCase tables fxy (factor ∷ behind) (BadFactor factor)
  -- X5: Table B lacks the factor
  factor_without_row : {tables : Entries} {fxy factor : ℕ} {behind : List ℕ} → f_of fxy ≡ 1
      → 0 < x_of fxy → y_of fxy ≡ 0 → element tables factor ≡ None
      → HasNoCase tables fxy (factor ∷ behind) (BadFactor factor)
  -- X5: the factor's row in Table B is no count
  factor_without_count : {tables : Entries} {fxy factor : ℕ} {row : Element} {behind : List ℕ}
      → f_of fxy ≡ 1 → 0 < x_of fxy → y_of fxy ≡ 0 → element tables factor ≡ Some row
      → (IsCountRow row → ⊥) → HasNoCase tables fxy (factor ∷ behind) (BadFactor factor)
  -- X4: a replication of more descriptors than the list has left
  too_few_left : {tables : Entries} {fxy : ℕ} {behind : List ℕ} → f_of fxy ≡ 1 → 0 < y_of fxy
      → length behind < x_of fxy → HasNoCase tables fxy behind (BadReplication fxy)
  -- X4: a replication of more descriptors than follow its factor
  too_few_behind_factor : {tables : Entries} {fxy factor : ℕ} {row : Element} {behind : List ℕ}
      → f_of fxy ≡ 1 → y_of fxy ≡ 0 → IsFactor factor → element tables factor ≡ Some row
      → IsCountRow row → length behind < x_of fxy
      → HasNoCase tables fxy (factor ∷ behind) (BadReplication fxy)
  -- X6: "signify character" (205) with Y = 0
  no_text : {tables : Entries} {fxy : ℕ} {behind : List ℕ} → f_of fxy ≡ 2 → x_of fxy ≡ 5
      → y_of fxy ≡ 0 → HasNoCase tables fxy behind (BadOperand fxy)
  -- X6: "signify data width for the immediately following local descriptor" (206) with Y = 0
  no_width : {tables : Entries} {fxy : ℕ} {behind : List ℕ} → f_of fxy ≡ 2 → x_of fxy ≡ 6
      → y_of fxy ≡ 0 → HasNoCase tables fxy behind (BadOperand fxy)
  -- X7: 206 with nothing after it
  width_of_nothing : {tables : Entries} {fxy : ℕ} → f_of fxy ≡ 2 → x_of fxy ≡ 6 → 0 < y_of fxy
      → HasNoCase tables fxy [] (Dangling206 fxy)
  -- X7: 206 with a descriptor after it that is no element
  width_of_no_element : {tables : Entries} {fxy local : ℕ} {behind : List ℕ} → f_of fxy ≡ 2
      → x_of fxy ≡ 6 → 0 < y_of fxy → f_of local ≢ 0
      → HasNoCase tables fxy (local ∷ behind) (Dangling206 fxy)
  -- X6: 206 with more than 63 bits before an element that Table B lacks with this width
  too_wide : {tables : Entries} {fxy local : ℕ} {behind : List ℕ} → f_of fxy ≡ 2 → x_of fxy ≡ 6
      → most_number_bits < y_of fxy → f_of local ≡ 0
      → ((row : Element) → element tables local ≡ Some row → row.width ≢ y_of fxy)
      → HasNoCase tables fxy (local ∷ behind) (BadOperand fxy)

-- ---- the first part of a list, and the list after it

-- a node without a body: an element, an operator that stays in force, 205, or 206 with its element
pub data NodeFirst : Entries → List ℕ → List ℕ → Type 0 where
  element_node : {tables : Entries} {fxy : ℕ} {row : Element} {behind : List ℕ} → f_of fxy ≡ 0
      → element tables fxy ≡ Some row → NodeFirst tables (fxy ∷ behind) behind
  operator_node : {tables : Entries} {fxy : ℕ} {behind : List ℕ} → f_of fxy ≡ 2
      → StaysInForce (x_of fxy) → NodeFirst tables (fxy ∷ behind) behind
  text_node : {tables : Entries} {fxy : ℕ} {behind : List ℕ} → f_of fxy ≡ 2 → x_of fxy ≡ 5
      → 0 < y_of fxy → NodeFirst tables (fxy ∷ behind) behind
  width_node : {tables : Entries} {fxy local : ℕ} {row : Element} {behind : List ℕ} → f_of fxy ≡ 2
      → x_of fxy ≡ 6 → 0 < y_of fxy → f_of local ≡ 0 → ReadAt tables local (y_of fxy) row
      → NodeFirst tables (fxy ∷ local ∷ behind) behind

-- a sequence, and its list in Table D
pub data SequenceFirst : Entries → List ℕ → List ℕ → List ℕ → Type 0 where
  sequence_list : {tables : Entries} {fxy : ℕ} {list behind : List ℕ} → 3 ≤ f_of fxy
      → sequence tables fxy ≡ Some list → SequenceFirst tables (fxy ∷ behind) list behind

-- a replication, and its body: the next X descriptors, after the factor if Y = 0
pub data ReplicationFirst : Entries → List ℕ → List ℕ → List ℕ → Type 0 where
  repeated_body : {tables : Entries} {fxy : ℕ} {body behind : List ℕ} → f_of fxy ≡ 1 → 0 < x_of fxy
      → 0 < y_of fxy → length body ≡ x_of fxy
      → ReplicationFirst tables (fxy ∷ body ++ behind) body behind
  delayed_body : {tables : Entries} {fxy factor : ℕ} {row : Element} {body behind : List ℕ}
      → f_of fxy ≡ 1 → 0 < x_of fxy → y_of fxy ≡ 0 → IsFactor factor
      → element tables factor ≡ Some row → IsCountRow row → length body ≡ x_of fxy
      → ReplicationFirst tables (fxy ∷ factor ∷ body ++ behind) body behind

-- ---- the first fault

-- the first fault of a list, given the levels of sequences and of replications still allowed, and
-- the number of nodes before
pub data FirstFault : (tables : Entries) (sequences replications used : ℕ) (list : List ℕ)
    (fault : TemplateFault) → Type 0 where
  -- X1 to X7 at the first descriptor
  no_case : {tables : Entries} {sequences replications used fxy : ℕ} {behind : List ℕ}
      {fault : TemplateFault} → HasNoCase tables fxy behind fault
      → FirstFault tables sequences replications used (fxy ∷ behind) fault
  -- X8: a sequence with no level left
  sequence_too_deep : {tables : Entries} {replications used : ℕ} {list inside behind : List ℕ}
      → SequenceFirst tables list inside behind
      → FirstFault tables zero replications used list TooDeep
  -- X8: a replication with no level left
  replication_too_deep : {tables : Entries} {sequences used : ℕ} {list body behind : List ℕ}
      → ReplicationFirst tables list body behind
      → FirstFault tables sequences zero used list TooDeep
  -- X9: one node too many
  node_too_many : {tables : Entries} {sequences replications used : ℕ} {list behind : List ℕ}
      → NodeFirst tables list behind → most_nodes ≤ used
      → FirstFault tables sequences replications used list TooManyNodes
  -- X9: the node of a replication is one too many
  replication_too_many : {tables : Entries} {sequences replications used : ℕ}
      {list body behind : List ℕ} → ReplicationFirst tables list body behind → most_nodes ≤ used
      → FirstFault tables sequences (suc replications) used list TooManyNodes
  -- the first fault in a sequence's list
  in_sequence : {tables : Entries} {sequences replications used : ℕ} {list inside behind : List ℕ}
      {fault : TemplateFault} → SequenceFirst tables list inside behind
      → FirstFault tables sequences replications used inside fault
      → FirstFault tables (suc sequences) replications used list fault
  -- the first fault in a replication's body, after the node of the replication
  in_replication : {tables : Entries} {sequences replications used : ℕ} {list body behind : List ℕ}
      {fault : TemplateFault} → ReplicationFirst tables list body behind → used < most_nodes
      → FirstFault tables sequences replications (used + 1) body fault
      → FirstFault tables sequences (suc replications) used list fault
  -- the first fault after a node
  behind_node : {tables : Entries} {sequences replications used : ℕ} {list behind : List ℕ}
      {fault : TemplateFault} → NodeFirst tables list behind → used < most_nodes
      → FirstFault tables sequences replications (used + 1) behind fault
      → FirstFault tables sequences replications used list fault
  -- the first fault after a sequence whose list has a tree
  behind_sequence : {tables : Entries} {sequences replications used : ℕ}
      {list inside behind : List ℕ} {inner : Tree} {fault : TemplateFault}
      → SequenceFirst tables list inside behind → Flat tables sequences replications inside inner
      → used + length (nodes_of inner) ≤ most_nodes
      → FirstFault tables (suc sequences) replications (used + length (nodes_of inner)) behind fault
      → FirstFault tables (suc sequences) replications used list fault
  -- the first fault after a replication whose body has a tree
  behind_replication : {tables : Entries} {sequences replications used : ℕ}
      {list body behind : List ℕ} {inner : Tree} {fault : TemplateFault}
      → ReplicationFirst tables list body behind → Flat tables sequences replications body inner
      → used + 1 + length (nodes_of inner) ≤ most_nodes
      → FirstFault tables sequences (suc replications) (used + 1 + length (nodes_of inner))
      behind fault
      → FirstFault tables sequences (suc replications) used list fault

-- the first fault of a template's list: with all levels of sequences and of replications allowed,
-- and no node before
abbrev pub IsFirstFault : Entries → List ℕ → TemplateFault → Type 0
IsFirstFault tables list fault =
    FirstFault tables most_sequence_levels most_replication_levels 0 list fault

-- ---- laws

-- the expansion refuses a list exactly with its first fault
abbrev pub RefusesExactly : Entries → List ℕ → TemplateFault → Type 0
RefusesExactly tables list fault = (expansion tables list ≡ Err fault)
    ↔ IsFirstFault tables list fault

-- a list has a tree within the limits, or a first fault
abbrev pub HasTreeOrFault : Entries → List ℕ → Type 0
HasTreeOrFault tables list = ((tree : Tree) × IsTreeOf tables list tree)
    ⊎ ((fault : TemplateFault) × IsFirstFault tables list fault)

-- no list has both a tree within the limits and a first fault
abbrev pub HasNotBoth : Entries → List ℕ → Tree → TemplateFault → Type 0
HasNotBoth tables list tree fault = IsTreeOf tables list tree → IsFirstFault tables list fault → ⊥

-- a list has at most one first fault
abbrev pub HasOneFault : Entries → List ℕ → TemplateFault → TemplateFault → Type 0
HasOneFault tables list f g = IsFirstFault tables list f → IsFirstFault tables list g → f ≡ g

-- a descriptor with X1 to X7 begins no tree, whatever its limits
abbrev pub HasNoTreeAt : Entries → ℕ → List ℕ → TemplateFault → Type 0
HasNoTreeAt tables d behind fault = HasNoCase tables d behind fault → (s r : ℕ) (tree : Tree)
    → Flat tables s r (d ∷ behind) tree → ⊥
