-- A walk, as the course that it has left.
use Rattle.std.specs.Prelude.{◌≡◌, ℕ, ◌+◌, ◌*◌, ◌-◌, ◌<◌, ◌^◌, Bool, true, false, List, [], ◌∷◌}
use Rattle.std.specs.Prelude.{length, take, drop, Option, Some, None, Result, Ok, Err, MatchBool}
use Rattle.bufr_tables.specs.declared.element.Kind.TheVariants as kinds
use Rattle.bufr_tables.specs.Elements.{same_kind}
use Rattle.bufr_expand.specs.declared.node.Node.{Node}
use Rattle.bufr_expand.specs.declared.walk.Step.{Step}
use Rattle.bufr_expand.specs.declared.walk.Step.TheVariants as steps
use Rattle.bufr_expand.specs.declared.walk.WalkFault.{WalkFault}
use Rattle.bufr_expand.specs.declared.walk_state.Open.{Open}
use Rattle.bufr_expand.specs.declared.walk_state.State.{State}
use Rattle.bufr_expand.specs.declared.walk_state.State.TheVariants as states
use Rattle.bufr_expand.specs.declared.walk.Walk.{Walk}
use Rattle.bufr_expand.specs.Limits.{most_items}
use Rattle.bufr_expand.specs.Trees.{Tree, tree_of}
use Rattle.bufr_expand.specs.Courses.{Course, ends, stops, asks, Then, turns, course_then}

-- the tree of the nodes from one index to another
abbrev pub tree_between : List Node → ℕ → ℕ → Tree
tree_between nodes from to = tree_of (take (to - from) (drop from nodes))

-- the course of the nodes from one index to another, and then `after`
abbrev pub rest_then : List Node → ℕ → ℕ → Then → Then
rest_then nodes from to after = λ q used. course_then (tree_between nodes from to) q used after

-- n turns of the nodes from one index to another, the nodes after them up to `stop`, and then
-- `after`
abbrev pub turns_then : List Node → ℕ → ℕ → ℕ → ℕ → Then → Then
turns_then nodes n from to stop after =
    λ q used. turns n (course_then (tree_between nodes from to)) q used
    (rest_then nodes to stop after)

-- what comes after the nodes at hand: for each open replication, outermost first, its turns left
-- and the nodes after it
unfoldable pub behind : List Node → List Open → Then → Then
behind nodes [] after = after
behind nodes (o ∷ os) after = behind nodes os (turns_then nodes o.turns o.from o.to o.stop after)

-- what comes after the nodes at hand, to the end of the subset
abbrev pub behind_all : List Node → List Open → Then
behind_all nodes os = behind nodes os (λ q used. ends used)

-- the course at a node
abbrev pub going : List Node → ℕ → ℕ → List Open → Then
going nodes place stop os = rest_then nodes place stop (behind_all nodes os)

-- the course after a count's number: its body is repeated that often
abbrev pub after_count : Option ℕ → List Node → ℕ → ℕ → List Open → ℕ → Then
after_count None nodes place stop os n = going nodes place stop os
after_count (Some from) nodes place stop os n = turns_then nodes n from place stop (behind_all nodes os)

-- the course left, by the state of the walk
abbrev pub left_in : State → List Node → ℕ → ℕ → List Open → Then
left_in states.Going nodes place stop os q used = going nodes place stop os q used
left_in (states.Waiting asked) nodes place stop os q used =
    asks used asked.fxy asked.spec (λ n. after_count asked.body nodes place stop os n q used)
left_in (states.Stopped fault) nodes place stop os q used = stops used fault

-- the course left to a walk
unfoldable pub left : Walk → Course
left w = left_in w.state w.nodes.now w.place w.stop w.loops.items w.operators w.items

-- whether the last step was a count without its number yet, by the state of the walk
abbrev pub is_waiting : State → Bool
is_waiting states.Going = false
is_waiting (states.Waiting asked) = true
is_waiting (states.Stopped fault) = false

-- whether a walk waits for the number of a count
unfoldable pub waits : Walk → Bool
waits w = is_waiting w.state

-- the items of the message met by a walk
unfoldable pub items_met : Walk → ℕ
items_met w = w.items

-- a bound on the nodes, turns and ends of replications before the next field
unfoldable pub steps_left : Walk → ℕ
steps_left w = 2 * (most_items - w.items) + length w.loops.items

-- what a step returns and leaves; at a count the walk waits
abbrev pub Goes : Course → Result Step WalkFault → Walk → Type 0
Goes (ends n) answer w = (answer ≡ Ok steps.End) × (left w ≡ ends n) × (waits w ≡ false)
    × (items_met w ≡ n)
Goes (stops n fault) answer w = (answer ≡ Err fault) × (left w ≡ stops n fault) × (waits w ≡ false)
    × (items_met w ≡ n)
Goes (asks met d spec more) answer w =
    MatchBool (same_kind spec.kind kinds.Count)
    ((answer ≡ Ok (steps.Count d spec)) × (left w ≡ asks met d spec more) × (waits w ≡ true)
    × (items_met w ≡ met))
    ((answer ≡ Ok (steps.Field d spec)) × (left w ≡ more 0) × (waits w ≡ false)
    × (items_met w ≡ met))

-- what the number of a count leaves
abbrev pub Counted : Course → ℕ → Walk → Type 0
Counted (asks met d spec more) n w = (left w ≡ more n) × (waits w ≡ false) × (items_met w ≡ met)
Counted (ends m) n w = Unit {0}
Counted (stops met fault) n w = Unit {0}

-- a number that a count can have
abbrev pub IsBelowCount : Course → ℕ → Type 0
IsBelowCount (asks met d spec more) n = n < 2 ^ spec.width
IsBelowCount (ends m) n = ⊥
IsBelowCount (stops met fault) n = ⊥
