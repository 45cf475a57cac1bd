-- The next field of an unrolling after some of its fields, and the items met up to it: one for each
-- node and one for each turn, the turn that has begun included (FM 94 BUFR, regulations 94.5.4 and
-- 94.5.5).
use Rattle.std.specs.Prelude.{◌≡◌, ◌⊎◌, ℕ, zero, suc, ◌+◌, ◌<◌, ◌≤◌, List, [], ◌∷◌, ◌++◌}
use Rattle.bufr_expand.specs.declared.operators.Operators.{Operators}
use Rattle.bufr_expand.specs.declared.operators.Spec.{Spec}
use Rattle.bufr_expand.specs.Limits.{most_items}
use Rattle.bufr_expand.specs.OperatorsInForce.{none_in_force, in_force_after, factor_spec}
use Rattle.bufr_expand.specs.Effects.{Effective, AsInTable}
use Rattle.bufr_expand.specs.Courses.{Course, asks}
use Rattle.bufr_expand.specs.Trees as trees
use Rattle.bufr_expand.specs.Unrolling.{NumberedField, Unrolled, UnrollsTo, Turns, Unroll, SubsetUnrolls}
use Rattle.bufr_expand.specs.Unrolling.{After}

-- ---- how an unrolling begins

-- the next field: its descriptor with its spec, or without one if it has none
pub data Next : Type 0 where
  wants : ℕ → Spec → Next
  lacks : ℕ → Next

-- the fields before the next one, the next one, and the items up to it
pub record Begun : Type 0 where
  pub fields : List NumberedField
  pub next : Next
  pub items : ℕ

-- an item before the beginning of an unrolling
abbrev pub item_before : Begun → Begun
item_before later = record { fields = later.fields; next = later.next; items = 1 + later.items }

-- a field, which is one item, before the beginning of an unrolling
abbrev pub field_before : NumberedField → Begun → Begun
field_before field later =
    record { fields = field ∷ later.fields; next = later.next; items = 1 + later.items }

-- a whole unrolling before the beginning of another
abbrev pub first_before : Unrolled → Begun → Begun
first_before first later =
    record {
      fields = first.fields ++ later.fields;
      next = later.next;
      items = first.items + later.items;
    }

-- ---- which nodes begin so

-- a set of beginnings, given the operators in force before them
abbrev pub Beginning : Type 1
Beginning = Operators → Begun → Type 0

-- an item, and then the rest begins
pub record ItemBefore (Rest : Beginning) (before : Operators) (begun : Begun) : Type 0 where
  pub later : Begun
  pub in_order : begun ≡ item_before later
  pub rest : Rest before later

-- the field of a descriptor comes next, with its spec, or without one if it has none
abbrev pub IsNext : ℕ → (Spec → Type 0) → Next → Type 0
IsNext fxy Has (wants k spec) = (k ≡ fxy) × Has spec
IsNext fxy Has (lacks k) = (k ≡ fxy) × ((spec : Spec) → Has spec → ⊥)

-- the field itself comes next, and is one item
pub record FieldIsNext (fxy : ℕ) (Has : Spec → Type 0) (begun : Begun) : Type 0 where
  pub none_before : begun.fields ≡ []
  pub is_next : IsNext fxy Has begun.next
  pub one_item : begun.items ≡ 1

-- the field comes first, and then the rest begins; its number may decide the rest
pub record FieldBefore (fxy : ℕ) (Has : Spec → Type 0) (Rest : ℕ → Beginning) (before : Operators)
    (begun : Begun) : Type 0 where
  pub field : NumberedField
  pub later : Begun
  pub in_order : begun ≡ field_before field later
  pub descriptor_is : field.fxy ≡ fxy
  pub has_spec : Has field.spec
  pub rest : Rest field.number before later

-- the field comes next, or the next field comes after it
abbrev pub FieldBegins : ℕ → (Spec → Type 0) → (ℕ → Beginning) → Beginning
FieldBegins fxy Has Rest before begun =
    FieldIsNext fxy Has begun ⊎ FieldBefore fxy Has Rest before begun

-- the first part comes whole, and then the rest begins with the operators in force by then
pub record FirstBefore (First : UnrollsTo) (Rest : Beginning) (before : Operators)
    (begun : Begun) : Type 0 where
  pub first : Unrolled
  pub later : Begun
  pub in_order : begun ≡ first_before first later
  pub is_first : First before first
  pub rest : Rest first.operators later

-- the next field is in the first part or after it
abbrev pub FirstBegins : UnrollsTo → Beginning → Beginning → Beginning
FirstBegins First Begin Rest before begun = Begin before begun ⊎ FirstBefore First Rest before begun

-- the next field is in one of `times` turns of a body; each turn is an item and then the body
unfoldable pub TurnsBegin : ℕ → UnrollsTo → Beginning → Beginning
TurnsBegin zero Body Begin before begun = ⊥
TurnsBegin (suc times) Body Begin before begun =
    ItemBefore (FirstBegins Body Begin (TurnsBegin times Body Begin)) before begun

-- the next field is in one of `times` turns of a body, or in the rest after them
abbrev pub TurnsThenBegin : ℕ → UnrollsTo → Beginning → Beginning → Beginning
TurnsThenBegin times Body Begin Rest =
    FirstBegins (Turns times Body) (TurnsBegin times Body Begin) Rest

-- the next field of the nodes of a tree is in the first node or after it (94.5.4)
unfoldable pub Begins : trees.Tree → Beginning
Begins trees.done before begun = ⊥
Begins (trees.operator fxy rest) before begun =
    ItemBefore (Begins rest) (in_force_after before fxy) begun
Begins (trees.element fxy row rest) before begun =
    FieldBegins fxy (Effective fxy row before) (λ number. Begins rest) before begun
Begins (trees.untouched fxy row rest) before begun =
    FieldBegins fxy (AsInTable row) (λ number. Begins rest) before begun
Begins (trees.repeated times body rest) before begun =
    ItemBefore (TurnsThenBegin times (Unroll body) (Begins body) (Begins rest)) before begun
Begins (trees.delayed fxy row body rest) before begun =
    FieldBegins fxy (λ spec. spec ≡ factor_spec row)
    (λ times. TurnsThenBegin times (Unroll body) (Begins body) (Begins rest)) before begun

-- ---- whole subsets

-- how a subset begins, with no operator in force (94.5.5)
abbrev pub SubsetBegins : trees.Tree → List NumberedField → Next → ℕ → Type 0
SubsetBegins tree fields next items =
    Begins tree none_in_force (record { fields = fields; next = next; items = items })

-- the next field of a subset, with `used` items of the message before the subset and `met` up to
-- the field, at most 16,777,216
abbrev pub BeginsWithin : trees.Tree → ℕ → List NumberedField → Next → ℕ → Type 0
BeginsWithin tree used fields next met =
    (items : ℕ) × SubsetBegins tree fields next items × (met ≡ used + items) × (met ≤ most_items)

-- `items` items are met up to the next field, or up to the end
abbrev pub MeetsItems : trees.Tree → List NumberedField → ℕ → Type 0
MeetsItems tree fields items =
    ((next : Next) × SubsetBegins tree fields next items)
    ⊎ ((operators : Operators) × SubsetUnrolls tree fields operators items)

-- an item up to the next field, or up to the end, is above the limit of a message
abbrev pub PassesLimit : trees.Tree → ℕ → List NumberedField → Type 0
PassesLimit tree used fields = (items : ℕ) × MeetsItems tree fields items
    × (most_items < used + items)

-- after these fields a course asks for this field, item `met`
abbrev pub AsksAfter : Course → List NumberedField → ℕ → ℕ → Spec → Type 0
AsksAfter course fields met fxy spec =
    (more : ℕ → Course) × After course fields (asks met fxy spec more)
