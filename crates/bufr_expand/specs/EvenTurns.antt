-- Turns with the same fields: their nodes are elements, none a count (FM 94 BUFR, regulations 94.5.4
-- and 94.5.5).
use Rattle.std.specs.Prelude.{◌≡◌, ℕ, zero, suc, ◌+◌, ◌<◌, ◌≤◌, false, List, [], ◌++◌, map}
use Rattle.std.specs.Prelude.{length}
use Rattle.std.specs.List.{AllByRecursion}
use Rattle.bufr_tables.specs.declared.element.Kind.TheVariants as kinds
use Rattle.bufr_tables.specs.Elements.{same_kind}
use Rattle.bufr_expand.specs.declared.even_turns.CommonField.{CommonField}
use Rattle.bufr_expand.specs.declared.even_turns.EvenTurns.{EvenTurns}
use Rattle.bufr_expand.specs.declared.operators.Operators.{Operators}
use Rattle.bufr_expand.specs.declared.walk.Walk.{Walk}
use Rattle.bufr_expand.specs.Limits.{most_items}
use Rattle.bufr_expand.specs.Courses.{Then, course_then}
use Rattle.bufr_expand.specs.Steady.{IsSteady}
use Rattle.bufr_expand.specs.Trees.{Tree}
use Rattle.bufr_expand.specs.Unrolling.{NumberedField, After}
use Rattle.bufr_expand.specs.Walks.{left, waits, items_met}

-- a field as unrollings have it, with 0 for its unknown number
abbrev pub told : CommonField → NumberedField
told f = record { fxy = f.fxy; spec = f.spec; number = 0 }

-- none of the fields is a count
abbrev pub HaveNoCount : List CommonField → Type 0
HaveNoCount fields = AllByRecursion (λ f. same_kind f.spec.kind kinds.Count ≡ false) fields

-- a list n times
unfoldable pub repeated : {A : Type 0} → ℕ → List A → List A
repeated zero xs = []
repeated (suc n) xs = xs ++ repeated n xs

-- the first nodes of a tree ask for these fields under operators, none a count and each an item, and
-- `rest` follows
pub record BeginsFields (nodes : Tree) (operators : Operators) (fields : List CommonField)
    (rest : Tree) : Type 0 where
  pub no_count : HaveNoCount fields
  pub asked : (used : ℕ) (after : Then) → used + length fields ≤ most_items
      → After (course_then nodes operators used after) (map told fields)
      (course_then rest operators (used + length fields) after)

-- a walk has passed all turns left of a replication, within the limit of items, and can go on
pub record PassesTurns (old : Walk) (found : EvenTurns) (new : Walk) : Type 0 where
  pub no_count : HaveNoCount (repeated found.turns found.fields.items)
  pub asked : After (left old) (map told (repeated found.turns found.fields.items)) (left new)
  pub answered : waits new ≡ false
  pub steady : IsSteady (items_met new) (left new)
  pub further : items_met old < items_met new
  pub within : items_met new ≤ most_items
