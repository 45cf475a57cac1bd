-- Steady courses: each field is at least one more item, and only counts decide what comes after
-- them (FM 94 BUFR, regulation 94.5.4). For `courses_are_steady`.
use Rattle.std.proofs.Common.{◌≡◌, ℕ, zero, suc, ◌+◌, ◌<◌, ◌≤◌, false, ltb}
use Rattle.std.proofs.Common.{Option, Some, None, refl, arith}
use Rattle.std.proofs.lemmas.Bool.{ltb-true, cond_both}
use Rattle.bufr_tables.specs.declared.element.Kind.TheVariants as kinds
use Rattle.bufr_tables.specs.Elements.{same_kind}
use Rattle.bufr_expand.specs.declared.operators.Operators.{Operators}
use Rattle.bufr_expand.specs.declared.operators.Spec.{Spec}
use Rattle.bufr_expand.specs.declared.walk.WalkFault.TheVariants.{TooLarge}
use Rattle.bufr_expand.specs.Limits.{most_items}
use Rattle.bufr_expand.specs.OperatorsInForce.{in_force_after, effective, untouched}
use Rattle.bufr_expand.specs.Trees as trees
use Rattle.bufr_expand.specs.Courses.{Course, ends, stops, asks, Then, item, asks_if, turns}
use Rattle.bufr_expand.specs.Courses.{course_then, course}

-- a steady course after `used` items: each field comes after more items, within the limit of a
-- message, and the number of a field that is no count decides nothing
unfoldable pub IsSteady : ℕ → Course → Type 0
IsSteady used (ends met) = Unit {0}
IsSteady used (stops met fault) = Unit {0}
IsSteady used (asks met fxy spec more) =
    (used < met) × (met ≤ most_items)
    × (same_kind spec.kind kinds.Count ≡ false → (number : ℕ) → more number ≡ more 0)
    × ((number : ℕ) → IsSteady met (more number))

-- every field that a course asks for has such a spec, whatever numbers the fields before it have
unfoldable pub EachAsked : (Spec → Type 0) → Course → Type 0
EachAsked Has (ends met) = Unit {0}
EachAsked Has (stops met fault) = Unit {0}
EachAsked Has (asks met fxy spec more) = Has spec × ((number : ℕ) → EachAsked Has (more number))

-- ---- the law, which `laws::courses_are_steady` states, for proofs about walks

earlier : (used later : ℕ) (c : Course) → used ≤ later → IsSteady later c → IsSteady used c
unfolding IsSteady
earlier used later (ends n) le s = tt
earlier used later (stops n fault) le s = tt
earlier used later (asks met d spec more) le s = (omega (arith, s.0), s.1, s.2, s.3)

-- what comes after some nodes is steady
abbrev IsSteadyThen : Then → Type 0
IsSteadyThen after = (q : Operators) (used : ℕ) → IsSteady used (after q used)

steady_item : (used : ℕ) (c : Course) → (used < most_items → IsSteady used c)
    → IsSteady used (item used c)
unfolding IsSteady
steady_item used c s =
    cond_both (ltb used most_items) c (stops used TooLarge) (IsSteady used)
    (λ e. s (ltb-true used most_items e)) (λ e. tt)

steady_field : (used d : ℕ) (spec : Option Spec) (c : Course) → used < most_items
    → IsSteady (used + 1) c
    → IsSteady used (asks_if spec (used + 1) d (λ n. c))
unfolding IsSteady
steady_field used d None c room s = tt
steady_field used d (Some spec) c room s = (omega arith, omega arith, λ other n. refl, λ n. s)

pub steady_turns : (n : ℕ) (body : Operators → ℕ → Then → Course)
    → ((q : Operators) (used : ℕ) (after : Then) → IsSteadyThen after
    → IsSteady used (body q used after))
    → (q : Operators) (used : ℕ) (after : Then) → IsSteadyThen after
    → IsSteady used (turns n body q used after)
unfolding turns
steady_turns zero body each q used after s = s q used
steady_turns (suc n) body each q used after s =
    steady_item used _ (λ room. earlier used (used + 1) _ (omega arith)
    (each q (used + 1) _ (λ q used. steady_turns n body each q used after s)))

pub steady_then : (t : trees.Tree) (q : Operators) (used : ℕ) (after : Then) → IsSteadyThen after
    → IsSteady used (course_then t q used after)
unfolding course_then IsSteady
steady_then trees.done q used after s = s q used
steady_then (trees.operator d rest) q used after s =
    steady_item used _ (λ room. earlier used (used + 1) _ (omega arith)
    (steady_then rest (in_force_after q d) (used + 1) after s))
steady_then (trees.element d e rest) q used after s =
    steady_item used _ (λ room. steady_field used d (effective d e q) _ room
    (steady_then rest q (used + 1) after s))
steady_then (trees.untouched d e rest) q used after s =
    steady_item used _ (λ room. steady_field used d (untouched e) _ room
    (steady_then rest q (used + 1) after s))
steady_then (trees.repeated times body rest) q used after s =
    steady_item used _ (λ room. earlier used (used + 1) _ (omega arith)
    (steady_turns times (course_then body) (λ q used after s. steady_then body q used after s)
    q (used + 1) _ (λ q used. steady_then rest q used after s)))
steady_then (trees.delayed d e body rest) q used after s =
    steady_item used _ (λ room. (
      omega arith,
      omega arith,
      λ other. absurd cc,
      λ n. steady_turns n (course_then body) (λ q used after s. steady_then body q used after s)
          q (used + 1) _ (λ q used. steady_then rest q used after s),
    ))

-- the course of a template is steady
pub course_steady : (tree : trees.Tree) (used : ℕ) → IsSteady used (course tree used)
unfolding IsSteady
course_steady tree used = steady_then tree _ used _ (λ q n. tt)
