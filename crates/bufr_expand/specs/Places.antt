-- The places that a walk can have: open bodies lie within the nodes, and before each body there are
-- more replications than are open around it.
use Rattle.std.specs.Prelude.{ℕ, ◌+◌, ◌≤◌, Bool, true, false, List, [], ◌∷◌, length, take, Option}
use Rattle.std.specs.Prelude.{Some, None, count_by}
use Rattle.std.specs.Coded.{×_prop, Unit-prop, le_prop}
use Rattle.bufr_expand.specs.declared.node.Node.{Node}
use Rattle.bufr_expand.specs.declared.node.Node.TheVariants as nodes
use Rattle.bufr_expand.specs.declared.walk_state.Open.{Open}
use Rattle.bufr_expand.specs.declared.walk_state.State.{State}
use Rattle.bufr_expand.specs.declared.walk_state.State.TheVariants as states

-- whether a node is a replication, fixed or delayed
abbrev pub repeats : Node → Bool
repeats (nodes.Repeated times len) = true
repeats (nodes.Delayed d e len) = true
repeats (nodes.Element d e) = false
repeats (nodes.Untouched d e) = false
repeats (nodes.Operator d) = false

-- the number of replications among nodes
abbrev pub replications : List Node → ℕ
replications nodes = count_by repeats nodes

-- the number of replications before a place
abbrev pub in_front : List Node → ℕ → ℕ
in_front nodes place = replications (take place nodes)

-- an open replication with `depth` others open around it
abbrev pub IsOpen : List Node → ℕ → Open → Type 0
IsOpen nodes depth o = ((depth + 1 ≤ in_front nodes o.from) × (o.from ≤ o.to))
    × ((o.to ≤ length nodes) × (o.stop ≤ length nodes))

-- open replications, outermost first, with `depth` others open around the first
unfoldable pub AreOpen : List Node → ℕ → List Open → Type 0
AreOpen nodes depth [] = Unit {0}
AreOpen nodes depth (o ∷ os) = IsOpen nodes depth o × AreOpen nodes (depth + 1) os

-- `AreOpen` has one proof at most
pub AreOpen-prop : (nodes : List Node) (depth : ℕ) (os : List Open)
    → IsProp (AreOpen nodes depth os)
unfolding AreOpen
AreOpen-prop nodes depth [] = Unit-prop
AreOpen-prop nodes depth (o ∷ os) =
    ×_prop (×_prop (×_prop le_prop le_prop) (×_prop le_prop le_prop))
    (AreOpen-prop nodes (depth + 1) os)

-- the start of the body that waits for its count, or the place
abbrev pub begin_or : Option ℕ → ℕ → ℕ
begin_or None place = place
begin_or (Some from) place = from

-- the first node at hand, by the state of the walk
abbrev pub begins : State → ℕ → ℕ
begins states.Going place = place
begins (states.Waiting asked) place = begin_or asked.body place
begins (states.Stopped fault) place = place

-- the number of bodies that wait for a count: 1 or 0
abbrev pub one_if : Option ℕ → ℕ
one_if None = 0
one_if (Some from) = 1

-- the number of bodies that wait for a count, by the state of the walk
abbrev pub awaited : State → ℕ
awaited states.Going = 0
awaited (states.Waiting asked) = one_if asked.body
awaited (states.Stopped fault) = 0
