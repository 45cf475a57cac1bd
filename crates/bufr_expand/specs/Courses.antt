-- The course of a template: the field that it asks for next, given the numbers of its earlier
-- fields (FM 94 BUFR, regulations 94.5.4 and 94.5.5).
use Rattle.std.specs.Prelude.{ℕ, zero, suc, ◌+◌, Option, Some, None, nat_lt, if◌then◌else◌}
use Rattle.bufr_expand.specs.declared.operators.Operators.{Operators}
use Rattle.bufr_expand.specs.declared.operators.Spec.{Spec}
use Rattle.bufr_expand.specs.declared.walk.WalkFault.{WalkFault}
use Rattle.bufr_expand.specs.declared.walk.WalkFault.TheVariants.{TooLarge, EffectiveRange}
use Rattle.bufr_expand.specs.Limits.{most_items}
use Rattle.bufr_expand.specs.OperatorsInForce.{none_in_force, in_force_after, effective, untouched}
use Rattle.bufr_expand.specs.OperatorsInForce.{factor_spec}
use Rattle.bufr_expand.specs.Trees as trees

-- `ends met` is the end after `met` items; `stops met fault` is a fault after `met` items; `asks
-- met fxy spec more` asks for a field, item `met`, and `more number` is the course after it if it
-- has that number
pub data Course : Type 0 where
  ends : ℕ → Course
  stops : ℕ → WalkFault → Course
  asks : ℕ → ℕ → Spec → (ℕ → Course) → Course

-- a course after some nodes, given the operators in force and the items met
abbrev pub Then : Type 0
Then = Operators → ℕ → Course

-- one more item, if the message has room for it
abbrev pub item : ℕ → Course → Course
item used course = if nat_lt used most_items then course else stops used TooLarge

-- asks for a field with a spec; a field without one stops the course
abbrev pub asks_if : Option Spec → ℕ → ℕ → (ℕ → Course) → Course
asks_if None met fxy more = stops met (EffectiveRange fxy)
asks_if (Some spec) met fxy more = asks met fxy spec more

-- `times` turns of a body, each with the operators in force at the end of the turn before
unfoldable pub turns : ℕ → (Operators → ℕ → Then → Course) → Operators → ℕ → Then → Course
turns zero body operators used after = after operators used
turns (suc times) body operators used after =
    item used (body operators (used + 1) (λ operators used. turns times body operators used after))

-- the course of a tree, and `after` after it
unfoldable pub course_then : trees.Tree → Operators → ℕ → Then → Course
course_then trees.done operators used after = after operators used
course_then (trees.operator fxy rest) operators used after =
    item used (course_then rest (in_force_after operators fxy) (used + 1) after)
course_then (trees.element fxy row rest) operators used after =
    item used (asks_if (effective fxy row operators) (used + 1) fxy
    (λ number. course_then rest operators (used + 1) after))
course_then (trees.untouched fxy row rest) operators used after =
    item used (asks_if (untouched row) (used + 1) fxy
    (λ number. course_then rest operators (used + 1) after))
course_then (trees.repeated times body rest) operators used after =
    item used (turns times (course_then body) operators (used + 1)
    (λ operators used. course_then rest operators used after))
course_then (trees.delayed fxy row body rest) operators used after =
    item used (asks (used + 1) fxy (factor_spec row)
    (λ times. turns times (course_then body) operators (used + 1)
    (λ operators used. course_then rest operators used after)))

-- the course of one subset, which begins with no operator in force (94.5.5)
abbrev pub course : trees.Tree → ℕ → Course
course tree used = course_then tree none_in_force used (λ operators met. ends met)
