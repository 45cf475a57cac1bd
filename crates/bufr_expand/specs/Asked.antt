-- Chosen fields, by their descriptors, among nodes and in a course.
use Rattle.std.specs.Prelude.{◌≡◌, ℕ, ◌-◌, Bool, false, not, List, take, drop}
use Rattle.std.specs.List.{list_all}
use Rattle.bufr_expand.specs.declared.node.Node.{Node}
use Rattle.bufr_expand.specs.declared.node.Node.TheVariants as nodes
use Rattle.bufr_expand.specs.Courses.{Course, ends, stops, asks}

-- whether a node is a chosen field: an element, or the factor of a delayed replication
abbrev pub tells : (ℕ → Bool) → Node → Bool
tells is_asked (nodes.Element d row) = is_asked d
tells is_asked (nodes.Untouched d row) = is_asked d
tells is_asked (nodes.Operator d) = false
tells is_asked (nodes.Repeated times len) = false
tells is_asked (nodes.Delayed d row len) = is_asked d

-- no node from one index to another is a chosen field
abbrev pub none_between : (ℕ → Bool) → List Node → ℕ → ℕ → Bool
none_between is_asked nodes from to =
    list_all (λ node. not (tells is_asked node)) (take (to - from) (drop from nodes))

-- a course has no chosen field, whatever numbers its fields have
unfoldable pub TellsNone : (ℕ → Bool) → Course → Type 0
TellsNone is_asked (ends met) = Unit {0}
TellsNone is_asked (stops met fault) = Unit {0}
TellsNone is_asked (asks met fxy spec more) =
    (is_asked fxy ≡ false) × ((number : ℕ) → TellsNone is_asked (more number))
