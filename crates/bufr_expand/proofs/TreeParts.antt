-- An induction on trees: what holds of no node, and passes from the rest to an item, a field or a
-- first part before it, holds of every tree.
use Rattle.std.proofs.Common.{◌≡◌, ℕ, zero, suc, ◌+◌, Option, Some, ap, sym}
use Rattle.bufr_expand.specs.declared.operators.Operators.{Operators}
use Rattle.bufr_expand.specs.declared.operators.Spec.{Spec}
use Rattle.bufr_tables.specs.declared.element.Element.{Element}
use Rattle.bufr_expand.specs.OperatorsInForce.{in_force_after, effective, untouched, factor_spec}
use Rattle.bufr_expand.specs.Effects.{Effective, AsInTable}
use Rattle.bufr_expand.specs.Courses.{Course, asks_if, item, Then, turns, course_then}
use Rattle.bufr_expand.specs.Trees as trees
use Rattle.bufr_expand.specs.Unrolling.{Unrolled, nothing, UnrollsTo, ItemThen, FieldThen}
use Rattle.bufr_expand.specs.Unrolling.{FirstThen, Turns, TurnsThen, Unroll}
use Rattle.bufr_expand.specs.NextFields.{Begun, Beginning, ItemBefore, FieldBegins, FirstBegins}
use Rattle.bufr_expand.specs.NextFields.{TurnsBegin, TurnsThenBegin, Begins}
use Rattle.bufr_expand.proofs.SpecFacts.{effective_found, effective_only, in_table, in_table_only}

-- the course of a part, given the items before it and the course after it
abbrev pub PartCourse : Type 0
PartCourse = ℕ → Then → Course

-- a property of a part: of its unrollings, its beginnings and its course
abbrev pub OfPart : Type 1
OfPart = (Unrolled → Type 0) → (Begun → Type 0) → PartCourse → Type 0

-- under any operators
abbrev pub OfAll : OfPart → UnrollsTo → Beginning → (Operators → PartCourse) → Type 0
OfAll Holds Body Begin body =
    (before : Operators) → Holds (Body before) (Begin before) (body before)

-- it holds of no node, and of what such parts make up
pub record IsKept (Holds : OfPart) : Type 1 where
  pub of_nothing : (before : Operators)
      → Holds (λ all. all ≡ nothing before) (λ begun. ⊥) (λ used after. after before used)
  pub of_item : (Rest : UnrollsTo) (Begin : Beginning) (before : Operators) (rest : PartCourse)
      → Holds (Rest before) (Begin before) rest
      → Holds (ItemThen Rest before) (ItemBefore Begin before)
      (λ used after. item used (rest (used + 1) after))
  pub of_first : (First Rest : UnrollsTo) (Begin Behind : Beginning)
      (first rest : Operators → PartCourse)
      → OfAll Holds First Begin first → OfAll Holds Rest Behind rest
      → OfAll Holds (FirstThen First Rest) (FirstBegins First Begin Behind)
      (λ q used after. first q used (λ q used. rest q used after))
  pub of_field : (Has : Spec → Type 0) (o : Option Spec) (d : ℕ) (Rest : ℕ → UnrollsTo)
      (Begin : ℕ → Beginning) (before : Operators) (rest : ℕ → PartCourse)
      → ((s : Spec) → Has s → o ≡ Some s) → ((s : Spec) → o ≡ Some s → Has s)
      → ((n : ℕ) → Holds (Rest n before) (Begin n before) (rest n))
      → Holds (FieldThen d Has Rest before) (FieldBegins d Has Begin before)
      (λ used after. item used (asks_if o (used + 1) d (λ n. rest n (used + 1) after)))

turns_kept : (Holds : OfPart) → IsKept Holds → (times : ℕ) (Body : UnrollsTo) (Begin : Beginning)
    (body : Operators → PartCourse) → OfAll Holds Body Begin body
    → OfAll Holds (Turns times Body) (TurnsBegin times Body Begin) (turns times body)
unfolding Turns TurnsBegin turns
turns_kept Holds kept zero Body Begin body h before = kept.of_nothing before
turns_kept Holds kept (suc times) Body Begin body h before =
    kept.of_item (FirstThen Body (Turns times Body))
    (FirstBegins Body Begin (TurnsBegin times Body Begin)) before
    (λ used after. body before used (λ q used. turns times body q used after))
    (kept.of_first Body (Turns times Body) Begin (TurnsBegin times Body Begin) body
    (turns times body) h (turns_kept Holds kept times Body Begin body h) before)

turns_then_kept : (Holds : OfPart) → IsKept Holds → (times : ℕ) (body rest : trees.Tree)
    → OfAll Holds (Unroll body) (Begins body) (course_then body)
    → OfAll Holds (Unroll rest) (Begins rest) (course_then rest)
    → OfAll Holds (TurnsThen times (Unroll body) (Unroll rest))
    (TurnsThenBegin times (Unroll body) (Begins body) (Begins rest))
    (λ q used after. turns times (course_then body) q used
    (λ q used. course_then rest q used after))
turns_then_kept Holds kept times body rest h g =
    kept.of_first (Turns times (Unroll body)) (Unroll rest)
    (TurnsBegin times (Unroll body) (Begins body)) (Begins rest) (turns times (course_then body))
    (course_then rest)
    (turns_kept Holds kept times (Unroll body) (Begins body) (course_then body) h) g

factor_has : (e : Element) (s : Spec) → Some (factor_spec e) ≡ Some s → s ≡ factor_spec e
factor_has e s is = cc

pub tree_kept : (Holds : OfPart) → IsKept Holds → (t : trees.Tree)
    → OfAll Holds (Unroll t) (Begins t) (course_then t)
unfolding Unroll Begins course_then
tree_kept Holds kept trees.done before = kept.of_nothing before
tree_kept Holds kept (trees.operator d rest) before =
    kept.of_item (λ q. Unroll rest q) (λ q. Begins rest q) (in_force_after before d)
    (course_then rest (in_force_after before d))
    (tree_kept Holds kept rest (in_force_after before d))
tree_kept Holds kept (trees.element d e rest) before =
    kept.of_field (Effective d e before) (effective d e before) d (λ n. Unroll rest)
    (λ n. Begins rest) before (λ n. course_then rest before) (effective_only d e before)
    (effective_found d e before) (λ n. tree_kept Holds kept rest before)
tree_kept Holds kept (trees.untouched d e rest) before =
    kept.of_field (AsInTable e) (untouched e) d (λ n. Unroll rest) (λ n. Begins rest) before
    (λ n. course_then rest before) (in_table_only e) (in_table e)
    (λ n. tree_kept Holds kept rest before)
tree_kept Holds kept (trees.repeated times body rest) before =
    kept.of_item (TurnsThen times (Unroll body) (Unroll rest))
    (TurnsThenBegin times (Unroll body) (Begins body) (Begins rest)) before
    (λ used after. turns times (course_then body) before used
    (λ q used. course_then rest q used after))
    (turns_then_kept Holds kept times body rest (tree_kept Holds kept body)
    (tree_kept Holds kept rest) before)
tree_kept Holds kept (trees.delayed d e body rest) before =
    kept.of_field (λ spec. spec ≡ factor_spec e) (Some (factor_spec e)) d
    (λ n. TurnsThen n (Unroll body) (Unroll rest))
    (λ n. TurnsThenBegin n (Unroll body) (Begins body) (Begins rest)) before
    (λ n used after. turns n (course_then body) before used
    (λ q used. course_then rest q used after))
    (λ s is. ap Some (sym is)) (factor_has e)
    (λ n. turns_then_kept Holds kept n body rest (tree_kept Holds kept body)
    (tree_kept Holds kept rest) before)
