-- Unrollings of a tree: its fields with their numbers, the operators in force after them, and the
-- items met, one for each node and one for each turn (FM 94 BUFR, regulations 94.5.4 and 94.5.5).
use Rattle.std.specs.Prelude.{◌≡◌, ℕ, zero, suc, ◌+◌, ◌≤◌, List, [], ◌∷◌, ◌++◌}
use Rattle.bufr_expand.specs.declared.operators.Operators.{Operators}
use Rattle.bufr_expand.specs.declared.operators.Spec.{Spec}
use Rattle.bufr_expand.specs.Limits.{most_items}
use Rattle.bufr_expand.specs.OperatorsInForce.{none_in_force, in_force_after, factor_spec}
use Rattle.bufr_expand.specs.Effects.{Effective, AsInTable}
use Rattle.bufr_expand.specs.Courses.{Course, ends, stops, asks}
use Rattle.bufr_expand.specs.Trees as trees

-- ---- what nodes are unrolled to

-- a field: its descriptor, its spec, and its number, which counts turns if it is a factor
pub record NumberedField : Type 0 where
  pub fxy : ℕ
  pub spec : Spec
  pub number : ℕ

-- an unrolling of nodes: their fields in order, the operators in force after them, and the number
-- of items
pub record Unrolled : Type 0 where
  pub fields : List NumberedField
  pub operators : Operators
  pub items : ℕ

-- the unrolling of no nodes
abbrev pub nothing : Operators → Unrolled
nothing before = record { fields = []; operators = before; items = 0 }

-- one item before an unrolling
abbrev pub item_then : Unrolled → Unrolled
item_then others =
    record { fields = others.fields; operators = others.operators; items = 1 + others.items }

-- a field, which is one item, before an unrolling
abbrev pub field_then : NumberedField → Unrolled → Unrolled
field_then field others =
    record {
      fields = field ∷ others.fields;
      operators = others.operators;
      items = 1 + others.items;
    }

-- an unrolling before another
abbrev pub first_then : Unrolled → Unrolled → Unrolled
first_then first others = record {
  fields = first.fields ++ others.fields;
  operators = others.operators;
  items = first.items + others.items;
}

-- ---- which nodes have which unrollings

-- a set of unrollings, given the operators in force before them
abbrev pub UnrollsTo : Type 1
UnrollsTo = Operators → Unrolled → Type 0

-- an item, and then the rest
pub record ItemThen (Rest : UnrollsTo) (before : Operators) (all : Unrolled) : Type 0 where
  pub others : Unrolled
  pub in_order : all ≡ item_then others
  pub rest : Rest before others

-- a field with a spec that it has, and then the rest; its number may decide the rest
pub record FieldThen (fxy : ℕ) (Has : Spec → Type 0) (Rest : ℕ → UnrollsTo) (before : Operators)
    (all : Unrolled) : Type 0 where
  pub field : NumberedField
  pub others : Unrolled
  pub in_order : all ≡ field_then field others
  pub descriptor_is : field.fxy ≡ fxy
  pub has_spec : Has field.spec
  pub rest : Rest field.number before others

-- the first part, and then the rest with the operators in force by then
pub record FirstThen (First Rest : UnrollsTo) (before : Operators) (all : Unrolled) : Type 0 where
  pub first : Unrolled
  pub others : Unrolled
  pub in_order : all ≡ first_then first others
  pub is_first : First before first
  pub rest : Rest first.operators others

-- `times` turns of a body: each is an item and then the body, with the operators in force at the
-- end of the turn before (94.5.4)
unfoldable pub Turns : ℕ → UnrollsTo → UnrollsTo
Turns zero Body before all = all ≡ nothing before
Turns (suc times) Body before all = ItemThen (FirstThen Body (Turns times Body)) before all

-- `times` turns of a body, and then the rest
abbrev pub TurnsThen : ℕ → UnrollsTo → UnrollsTo → UnrollsTo
TurnsThen times Body Rest = FirstThen (Turns times Body) Rest

-- the unrollings of a tree. An operator is an item and acts from then on. An element is a field
-- with its effective spec, or its row's if no operator changes it. A replication is an item and
-- then its turns; a delayed one is its factor's field, whose number counts the turns (94.5.4,
-- 94.5.5)
unfoldable pub Unroll : trees.Tree → UnrollsTo
Unroll trees.done before all = all ≡ nothing before
Unroll (trees.operator fxy rest) before all = ItemThen (Unroll rest) (in_force_after before fxy) all
Unroll (trees.element fxy row rest) before all =
    FieldThen fxy (Effective fxy row before) (λ number. Unroll rest) before all
Unroll (trees.untouched fxy row rest) before all =
    FieldThen fxy (AsInTable row) (λ number. Unroll rest) before all
Unroll (trees.repeated times body rest) before all =
    ItemThen (TurnsThen times (Unroll body) (Unroll rest)) before all
Unroll (trees.delayed fxy row body rest) before all =
    FieldThen fxy (λ spec. spec ≡ factor_spec row)
    (λ times. TurnsThen times (Unroll body) (Unroll rest)) before all

-- ---- whole subsets

-- the unrollings of a subset, which begins with no operator in force (94.5.5)
abbrev pub SubsetUnrolls : trees.Tree → List NumberedField → Operators → ℕ → Type 0
SubsetUnrolls tree fields operators items =
    Unroll tree none_in_force (record { fields = fields; operators = operators; items = items })

-- the fields of a subset unroll its tree, with `used` items of the message before them and `met`
-- after them, at most 16,777,216
abbrev pub Unrolls : trees.Tree → ℕ → List NumberedField → ℕ → Type 0
Unrolls tree used fields met =
    (operators : Operators) × (items : ℕ) × SubsetUnrolls tree fields operators items
    × (met ≡ used + items) × (met ≤ most_items)

-- ---- the fields that a course asks for

-- a course asks for these fields in order and leaves a later course once it has their numbers
unfoldable pub After : Course → List NumberedField → Course → Type 0
After course [] later = course ≡ later
After (ends met) (field ∷ fields) later = ⊥
After (stops met fault) (field ∷ fields) later = ⊥
After (asks met fxy spec more) (field ∷ fields) later =
    (field.fxy ≡ fxy) × (field.spec ≡ spec) × After (more field.number) fields later

-- a course asks for these fields and ends after `met` items
abbrev pub Allows : Course → List NumberedField → ℕ → Type 0
Allows course fields met = After course fields (ends met)
