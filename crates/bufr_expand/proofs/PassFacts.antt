-- What a walk passes leaves its course unchanged.
use Rattle.std.proofs.Common.{◌≡◌, ℕ, zero, suc, ◌+◌, ◌-◌, ◌<◌, ◌≤◌, min, true, false, List, []}
use Rattle.std.proofs.Common.{◌∷◌, ◌++◌, length, get_or, take, drop, Option, Some, None, Result, Ok}
use Rattle.std.proofs.Common.{Err, MatchResult, refl, sym, ap, ◌∙◌, subst, arith}
use Rattle.std.specs.Result.{result_ok}
use Rattle.std.proofs.lemmas.Bool.{lt-ltb, le-ltb}
use Rattle.bufr_expand.specs.Limits.{most_items}
use Rattle.bufr_expand.specs.declared.node.Node.{Node}
use Rattle.bufr_expand.specs.declared.node.Node.TheVariants as nodes
use Rattle.bufr_expand.specs.declared.operators.Operators.{Operators}
use Rattle.bufr_expand.specs.declared.walk_state.Open.{Open}
use Rattle.bufr_expand.specs.declared.operators.Spec.{Spec}
use Rattle.bufr_expand.specs.declared.walk_state.PendingCount.{PendingCount}
use Rattle.bufr_expand.specs.declared.walk_state.State.{State}
use Rattle.bufr_expand.specs.declared.walk_state.State.TheVariants as states
use Rattle.bufr_expand.specs.declared.walk.Step.{Step}
use Rattle.bufr_expand.specs.declared.walk.Walk.{Walk}
use Rattle.bufr_expand.specs.declared.walk.WalkFault.{WalkFault}
use Rattle.bufr_expand.specs.declared.walk.WalkFault.TheVariants.{TooLarge}
use Rattle.bufr_expand.specs.OperatorsInForce.{none_in_force}
use Rattle.bufr_expand.specs.Courses.{Course, ends, stops, asks, item, Then, turns}
use Rattle.bufr_expand.specs.Courses.{course_then, course}
use Rattle.bufr_expand.specs.Trees as trees
use Rattle.bufr_expand.specs.Trees.{tree_of, tree_within}
use Rattle.bufr_expand.specs.Walks.{tree_between, rest_then, turns_then, behind, behind_all, going}
use Rattle.bufr_expand.specs.Walks.{after_count, left_in, left, is_waiting, waits, items_met, Goes}
use Rattle.bufr_expand.specs.Walks.{Counted}
use Rattle.bufr_expand.proofs.Between.{tree_between-all}
use Rattle.bufr_expand.proofs.Between.{tree_between-none, between-step, between-parts}

pub item-below : (used : ℕ) (c : Course) → used < most_items → item used c ≡ c
item-below used c h = rw (lt-ltb used most_items h) refl

pub item-above : (used : ℕ) (c : Course) → most_items ≤ used → item used c ≡ stops used TooLarge
item-above used c h = rw (le-ltb used most_items h) refl

pub left_going : (w : Walk) (os : List Open) → w.state ≡ states.Going → w.loops.items ≡ os
    → left w ≡ going w.nodes.now w.place w.stop os w.operators w.items
unfolding left
left_going w os e f =
    ap (λ s. left_in s w.nodes.now w.place w.stop w.loops.items w.operators w.items) e
    ∙ ap (λ l. going w.nodes.now w.place w.stop l w.operators w.items) f

-- the nodes after the one at the place
abbrev pub behind_place : Walk → List Node
behind_place w = take (w.stop - (w.place + 1)) (drop (w.place + 1) w.nodes.now)

from_node : (w : Walk) (n x : Node) (t : trees.Tree) → w.state ≡ states.Going → w.place < w.stop
    → w.stop ≤ length w.nodes.now → get_or w.nodes.now w.place x ≡ n
    → tree_of (n ∷ behind_place w) ≡ t
    → left w ≡ course_then t w.operators w.items (behind_all w.nodes.now w.loops.items)
from_node w n x t goes more within at is =
    left_going w w.loops.items goes refl
    ∙ ap (λ t. course_then t w.operators w.items (behind_all w.nodes.now w.loops.items))
    (ap tree_of (between-step w.nodes.now w.place w.stop x more within
    ∙ ap (λ m. m ∷ behind_place w) at) ∙ is)

pub at_node : (w : Walk) (n x : Node) (t : trees.Tree) (c : Course) → w.state ≡ states.Going
    → w.place < w.stop → w.stop ≤ length w.nodes.now → get_or w.nodes.now w.place x ≡ n
    → w.items < most_items → tree_of (n ∷ behind_place w) ≡ t
    → course_then t w.operators w.items (behind_all w.nodes.now w.loops.items) ≡ item w.items c
    → left w ≡ c
at_node w n x t c goes more within at below is course =
    from_node w n x t goes more within at is ∙ course ∙ item-below w.items c below

-- the end of the body of a replication at the place
abbrev body_stop : Walk → ℕ → ℕ
body_stop w len = (w.place + 1) + min len (w.stop - (w.place + 1))

pub body_trees : (w : Walk) (len : ℕ) (f : trees.Tree → trees.Tree → trees.Tree)
    → w.place < w.stop
    → f (tree_of (take len (behind_place w))) (tree_of (drop len (behind_place w)))
    ≡ f (tree_between w.nodes.now (w.place + 1) (body_stop w len))
    (tree_between w.nodes.now (body_stop w len) w.stop)
body_trees w len f more =
    let p = between-parts w.nodes.now (w.place + 1) w.stop len (omega arith) in
    rw (p.0, p.1) refl

pub stops_at : (t : trees.Tree) (q : Operators) (used : ℕ) (after : Then) → (t ≡ trees.done → ⊥)
    → most_items ≤ used → course_then t q used after ≡ stops used TooLarge
unfolding course_then
stops_at trees.done q used after h g = absurd (h refl)
stops_at (trees.element d e rest) q used after h g = item-above used _ g
stops_at (trees.untouched d e rest) q used after h g = item-above used _ g
stops_at (trees.operator d rest) q used after h g = item-above used _ g
stops_at (trees.repeated times body rest) q used after h g = item-above used _ g
stops_at (trees.delayed d e body rest) q used after h g = item-above used _ g

some_tree : (n : Node) (ns : List Node) → tree_of (n ∷ ns) ≡ trees.done → ⊥
unfolding tree_within
some_tree (nodes.Element d e) ns h = cc
some_tree (nodes.Untouched d e) ns h = cc
some_tree (nodes.Operator d) ns h = cc
some_tree (nodes.Repeated times len) ns h = cc
some_tree (nodes.Delayed d e len) ns h = cc

pub visit-limit : (w : Walk) → w.state ≡ states.Going → w.place < w.stop
    → w.stop ≤ length w.nodes.now → most_items ≤ w.items → left w ≡ stops w.items TooLarge
visit-limit w goes more within above =
    let n = get_or w.nodes.now w.place (nodes.Operator 0) in
    from_node w n (nodes.Operator 0) _ goes more within refl refl
    ∙ stops_at (tree_of (n ∷ behind_place w)) w.operators w.items
    (behind_all w.nodes.now w.loops.items) (some_tree n (behind_place w)) above

behind-push : (ns : List Node) (os : List Open) (o : Open) (after : Then)
    → behind ns (os ++ o ∷ []) after ≡ turns_then ns o.turns o.from o.to o.stop (behind ns os after)
unfolding behind
behind-push ns [] o after = refl
behind-push ns (p ∷ os) o after = behind-push ns os o
    (turns_then ns p.turns p.from p.to p.stop after)

passed : (w : Walk) (os : List Open) → w.state ≡ states.Going → w.loops.items ≡ os
    → w.stop ≤ w.place → left w ≡ behind_all w.nodes.now os w.operators w.items
unfolding course_then
passed w os goes opened h =
    left_going w os goes opened
    ∙ ap (λ t. course_then t w.operators w.items (behind_all w.nodes.now os))
    (tree_between-none w.nodes.now w.place w.stop h)

pub entered : (w : Walk) (os : List Open) (o : Open) → w.state ≡ states.Going
    → w.loops.items ≡ os ++ o ∷ [] → w.stop ≤ w.place
    → left w ≡ turns_then w.nodes.now o.turns o.from o.to o.stop (behind_all w.nodes.now os)
    w.operators w.items
entered w os o goes opened h =
    passed w (os ++ o ∷ []) goes opened h
    ∙ ap (λ f. f w.operators w.items) (behind-push w.nodes.now os o (λ q used. ends used))

pub none_left : (w : Walk) → w.state ≡ states.Going → w.loops.items ≡ [] → w.stop ≤ w.place
    → left w ≡ ends w.items
unfolding behind
none_left w goes opened h = passed w [] goes opened h

no_turn : (n : ℕ) (body : Operators → ℕ → Then → Course) (q : Operators) (used : ℕ) (after : Then)
    → n ≡ 0 → turns n body q used after ≡ after q used
unfolding turns
no_turn zero body q used after e = refl
no_turn (suc n) body q used after e = absurd (omega arith)

next_turn : (n : ℕ) (body : Operators → ℕ → Then → Course) (q : Operators) (used : ℕ) (after : Then)
    → 0 < n → turns n body q used after
    ≡ item used (body q (used + 1) (λ q used. turns (n - 1) body q used after))
unfolding turns
next_turn zero body q used after e = absurd (omega arith)
next_turn (suc n) body q used after e =
    let k : suc n - 1 ≡ n = omega arith in rw k refl

pub turn-over : (w : Walk) (os : List Open) (o : Open) → w.state ≡ states.Going
    → w.loops.items ≡ os ++ o ∷ [] → w.stop ≤ w.place → o.turns ≡ 0
    → left w ≡ going w.nodes.now o.to o.stop os w.operators w.items
turn-over w os o goes opened h e =
    entered w os o goes opened h ∙ no_turn o.turns _ w.operators w.items _ e

turn-left : (w : Walk) (os : List Open) (o : Open) → w.state ≡ states.Going
    → w.loops.items ≡ os ++ o ∷ [] → w.stop ≤ w.place → 0 < o.turns
    → left w ≡ item w.items (course_then (tree_between w.nodes.now o.from o.to) w.operators
    (w.items + 1) (turns_then w.nodes.now (o.turns - 1) o.from o.to o.stop
    (behind_all w.nodes.now os)))
turn-left w os o goes opened h some =
    entered w os o goes opened h
    ∙ next_turn o.turns (course_then (tree_between w.nodes.now o.from o.to)) w.operators w.items
    (rest_then w.nodes.now o.to o.stop (behind_all w.nodes.now os)) some

-- a replication with one turn fewer left
abbrev pub one_turn_fewer : Open → Open
one_turn_fewer o = record { turns = o.turns - 1; from = o.from; to = o.to; stop = o.stop }

pub turn-more : (w : Walk) (os : List Open) (o : Open) → w.state ≡ states.Going
    → w.loops.items ≡ os ++ o ∷ [] → w.stop ≤ w.place → 0 < o.turns → w.items < most_items
    → left w ≡ going w.nodes.now o.from o.to (os ++ one_turn_fewer o ∷ []) w.operators (w.items + 1)
turn-more w os o goes opened h some below =
    turn-left w os o goes opened h some
    ∙ item-below w.items _ below
    ∙ ap (λ f. course_then (tree_between w.nodes.now o.from o.to) w.operators (w.items + 1) f)
    (sym (behind-push w.nodes.now os (one_turn_fewer o) (λ q used. ends used)))

pub turn-limit : (w : Walk) (os : List Open) (o : Open) → w.state ≡ states.Going
    → w.loops.items ≡ os ++ o ∷ [] → w.stop ≤ w.place → 0 < o.turns → most_items ≤ w.items
    → left w ≡ stops w.items TooLarge
turn-limit w os o goes opened h some above =
    turn-left w os o goes opened h some ∙ item-above w.items _ above

pub at_front : (ns : List Node) (os : List Open) (q : Operators) (used : ℕ) → os ≡ []
    → q ≡ none_in_force → going ns 0 (length ns) os q used ≡ course (tree_of ns) used
unfolding behind
at_front ns os q used f g =
    ap (λ v. course_then (tree_between ns 0 (length ns)) q used (behind_all ns v)) f
    ∙ ap (λ v. course_then v q used (λ q n. ends n)) (tree_between-all ns)
    ∙ ap (λ v. course_then (tree_of ns) v used (λ q n. ends n)) g

pub goes_as : (c d : Course) (answer : Result Step WalkFault) (w : Walk) → c ≡ d → Goes d answer w
    → Goes c answer w
goes_as c d answer w e h = let P : Course → Type 0 = λ v. Goes v answer w in subst P (sym e) h

pub counted : (w v : Walk) (a : PendingCount) (body : Option ℕ) (n : ℕ) → w.state ≡ states.Waiting a
    → a.body ≡ body
    → (left v ≡ after_count body w.nodes.now w.place w.stop w.loops.items n w.operators w.items)
    × (waits v ≡ false) × (items_met v ≡ w.items) → Counted (left w) n v
unfolding left
counted w v a body n e f h =
    let P : Course → Type 0 = λ c. Counted c n v in
    subst P (sym (ap (λ s. left_in s w.nodes.now w.place w.stop w.loops.items w.operators w.items) e
    ∙ ap (λ b. asks w.items a.fxy a.spec
    (λ n. after_count b w.nodes.now w.place w.stop w.loops.items n w.operators w.items)) f)) h

pub waits_for : (s : State) → is_waiting s ≡ true → ((a : PendingCount) → s ≡ states.Waiting a → ⊥) → ⊥
waits_for states.Going e h = cc
waits_for (states.Waiting a) e h = h a refl
waits_for (states.Stopped f) e h = cc

pub spec_ok : {E : Type 0} (r : Result Spec E) (o : Option Spec) (P : E → Type 0)
    → MatchResult r (λ s. o ≡ Some s) (λ e. P e × (o ≡ None)) → result_ok r ≡ o
spec_ok (Ok s) o P h = sym h
spec_ok (Err e) o P h = sym h.1
