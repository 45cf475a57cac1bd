-- If no node ahead is a chosen field, the course has none.
use Rattle.std.proofs.Common.{◌≡◌, ℕ, zero, suc, ◌+◌, ◌-◌, ◌&&◌, Bool, true, false, List, [], ◌∷◌}
use Rattle.std.proofs.Common.{◌<◌, ◌∙◌, length, take, drop, Option, Some, None, not, sym, subst}
use Rattle.std.proofs.Common.{refl, ltb}
use Rattle.std.specs.Bool.{OnTrue}
use Rattle.std.specs.List.{list_all}
use Rattle.std.specs.Prelude.{slice_get}
use Rattle.std.proofs.lemmas.Bool.{cond_both}
use Rattle.std.proofs.lemmas.List.Folds.{list_all_more}
use Rattle.std.proofs.lemmas.Option.{get_or_from_slice_get}
use Rattle.bufr_expand.specs.declared.node.Node.{Node}
use Rattle.bufr_expand.specs.declared.node.Node.TheVariants as nodes
use Rattle.bufr_expand.specs.declared.operators.Operators.{Operators}
use Rattle.bufr_expand.specs.declared.operators.Spec.{Spec}
use Rattle.bufr_expand.specs.declared.walk_state.Open.{Open}
use Rattle.bufr_expand.specs.declared.walk_state.State.TheVariants as states
use Rattle.bufr_expand.specs.declared.walk.Walk.{Walk}
use Rattle.bufr_expand.specs.declared.walk.WalkFault.TheVariants.{TooLarge}
use Rattle.bufr_expand.specs.Limits.{most_items}
use Rattle.bufr_expand.specs.Asked.{tells, none_between, TellsNone}
use Rattle.bufr_expand.specs.OperatorsInForce.{in_force_after, effective, untouched}
use Rattle.bufr_expand.specs.Trees as trees
use Rattle.bufr_expand.specs.Trees.{tree_within, tree_of}
use Rattle.bufr_expand.specs.Courses.{Course, ends, stops, Then, item, asks_if, turns}
use Rattle.bufr_expand.specs.Courses.{course_then}
use Rattle.bufr_expand.specs.Walks.{left, behind, behind_all, rest_then, turns_then}
use Rattle.bufr_expand.proofs.PassFacts.{left_going}

-- no node is a chosen field
abbrev none : (ℕ → Bool) → List Node → Bool
none P ns = list_all (λ node. not (tells P node)) ns

HasNone : (ℕ → Bool) → trees.Tree → Type 0
HasNone P trees.done = Unit {0}
HasNone P (trees.element d row rest) = (P d ≡ false) × HasNone P rest
HasNone P (trees.untouched d row rest) = (P d ≡ false) × HasNone P rest
HasNone P (trees.operator d rest) = HasNone P rest
HasNone P (trees.repeated times body rest) = HasNone P body × HasNone P rest
HasNone P (trees.delayed d row body rest) = (P d ≡ false) × HasNone P body × HasNone P rest

and_true : (b c : Bool) → (b && c) ≡ true → (b ≡ true) × (c ≡ true)
and_true true c e = (refl, e)
and_true false c e = absurd cc

not_so : (b rest : Bool) → (not b && rest) ≡ true → (b ≡ false) × (rest ≡ true)
not_so false rest e = (refl, e)
not_so true rest e = absurd cc

none_first : (P : ℕ → Bool) (k : ℕ) (ns : List Node) → none P ns ≡ true → none P (take k ns) ≡ true
none_first P zero ns e = refl
none_first P (suc k) [] e = refl
none_first P (suc k) (n ∷ ns) e =
    let both = not_so (tells P n) (none P ns) e in
    rw both.0 (none_first P k ns both.1)

none_behind : (P : ℕ → Bool) (k : ℕ) (ns : List Node) → none P ns ≡ true → none P (drop k ns) ≡ true
none_behind P zero ns e = e
none_behind P (suc k) [] e = refl
none_behind P (suc k) (n ∷ ns) e = none_behind P k ns (not_so (tells P n) (none P ns) e).1

none_within : (P : ℕ → Bool) (k : ℕ) (ns : List Node) → none P ns ≡ true
    → HasNone P (tree_within k ns)
unfolding tree_within HasNone
none_within P zero ns e = tt
none_within P (suc k) [] e = tt
none_within P (suc k) (nodes.Element d row ∷ ns) e =
    let both = not_so (P d) (none P ns) e in (both.0, none_within P k ns both.1)
none_within P (suc k) (nodes.Untouched d row ∷ ns) e =
    let both = not_so (P d) (none P ns) e in (both.0, none_within P k ns both.1)
none_within P (suc k) (nodes.Operator d ∷ ns) e = none_within P k ns e
none_within P (suc k) (nodes.Repeated times len ∷ ns) e = (
  none_within P k (take len ns) (none_first P len ns e),
  none_within P k (drop len ns) (none_behind P len ns e),
)
none_within P (suc k) (nodes.Delayed d row len ∷ ns) e =
    let both = not_so (P d) (none P ns) e in (
      both.0,
      none_within P k (take len ns) (none_first P len ns both.1),
      none_within P k (drop len ns) (none_behind P len ns both.1),
    )

-- no chosen field comes after some nodes
abbrev NoneThen : (ℕ → Bool) → Then → Type 0
NoneThen P after = (q : Operators) (used : ℕ) → TellsNone P (after q used)

none_item : (P : ℕ → Bool) (used : ℕ) (c : Course) → TellsNone P c → TellsNone P (item used c)
unfolding TellsNone
none_item P used c s =
    cond_both (ltb used most_items) c (stops used TooLarge) (TellsNone P) (λ e. s) (λ e. tt)

none_field : (P : ℕ → Bool) (met d : ℕ) (spec : Option Spec) (c : Course) → P d ≡ false
    → TellsNone P c → TellsNone P (asks_if spec met d (λ n. c))
unfolding TellsNone
none_field P met d None c unasked s = tt
none_field P met d (Some spec) c unasked s = (unasked, λ n. s)

none_turns : (P : ℕ → Bool) (n : ℕ) (body : Operators → ℕ → Then → Course)
    → ((q : Operators) (used : ℕ) (after : Then) → NoneThen P after
    → TellsNone P (body q used after))
    → (q : Operators) (used : ℕ) (after : Then) → NoneThen P after
    → TellsNone P (turns n body q used after)
unfolding turns
none_turns P zero body each q used after s = s q used
none_turns P (suc n) body each q used after s =
    none_item P used _
    (each q (used + 1) _ (λ q used. none_turns P n body each q used after s))

none_then : (P : ℕ → Bool) (t : trees.Tree) (q : Operators) (used : ℕ) (after : Then)
    → HasNone P t → NoneThen P after → TellsNone P (course_then t q used after)
unfolding course_then TellsNone HasNone
none_then P trees.done q used after h s = s q used
none_then P (trees.operator d rest) q used after h s =
    none_item P used _ (none_then P rest (in_force_after q d) (used + 1) after h s)
none_then P (trees.element d row rest) q used after h s =
    none_item P used _ (none_field P (used + 1) d (effective d row q) _ h.0
    (none_then P rest q (used + 1) after h.1 s))
none_then P (trees.untouched d row rest) q used after h s =
    none_item P used _ (none_field P (used + 1) d (untouched row) _ h.0
    (none_then P rest q (used + 1) after h.1 s))
none_then P (trees.repeated times body rest) q used after h s =
    none_item P used _ (none_turns P times (course_then body)
    (λ q used after s. none_then P body q used after h.0 s)
    q (used + 1) _ (λ q used. none_then P rest q used after h.1 s))
none_then P (trees.delayed d row body rest) q used after h s =
    none_item P used _ (
      h.0,
      λ n. none_turns P n (course_then body)
          (λ q used after s. none_then P body q used after h.1 s)
          q (used + 1) _ (λ q used. none_then P rest q used after h.2 s),
    )

-- no node of an open replication, nor of its list after it, is a chosen field
abbrev pub is_clear : (ℕ → Bool) → List Node → Open → Bool
is_clear P nodes o = none_between P nodes o.from o.to && none_between P nodes o.to o.stop

-- no open replication has a chosen field
abbrev pub are_clear : (ℕ → Bool) → List Node → List Open → Bool
are_clear P nodes os = list_all (is_clear P nodes) os

none_rest : (P : ℕ → Bool) (nodes : List Node) (from to : ℕ) (after : Then)
    → none_between P nodes from to ≡ true → NoneThen P after
    → NoneThen P (rest_then nodes from to after)
none_rest P nodes from to after e s q used =
    let ahead = take (to - from) (drop from nodes) in
    none_then P (tree_of ahead) q used after (none_within P _ ahead e) s

none_turning : (P : ℕ → Bool) (nodes : List Node) (o : Open) (after : Then)
    → is_clear P nodes o ≡ true → NoneThen P after
    → NoneThen P (turns_then nodes o.turns o.from o.to o.stop after)
none_turning P nodes o after e s q used =
    let both = and_true (none_between P nodes o.from o.to) (none_between P nodes o.to o.stop) e in
    let body = take (o.to - o.from) (drop o.from nodes) in
    none_turns P o.turns (course_then (tree_of body))
    (λ q used after s. none_then P (tree_of body) q used after (none_within P _ body both.0) s)
    q used (rest_then nodes o.to o.stop after)
    (λ q used. none_rest P nodes o.to o.stop after both.1 s q used)

none_outside : (P : ℕ → Bool) (nodes : List Node) (os : List Open) (after : Then)
    → are_clear P nodes os ≡ true → NoneThen P after → NoneThen P (behind nodes os after)
unfolding behind
none_outside P nodes [] after e s = s
none_outside P nodes (o ∷ os) after e s =
    let both = and_true (is_clear P nodes o) (are_clear P nodes os) e in
    none_outside P nodes os (turns_then nodes o.turns o.from o.to o.stop after) both.1
    (none_turning P nodes o after both.0 s)

pub none_left : (P : ℕ → Bool) (w : Walk) → w.state ≡ states.Going
    → none_between P w.nodes.now w.place w.stop ≡ true
    → are_clear P w.nodes.now w.loops.items ≡ true → TellsNone P (left w)
unfolding TellsNone
none_left P w goes ahead around =
    subst (TellsNone P) (sym (left_going w w.loops.items goes refl))
    (none_rest P w.nodes.now w.place w.stop (behind_all w.nodes.now w.loops.items) ahead
    (none_outside P w.nodes.now w.loops.items (λ q used. ends used) around (λ q used. tt))
    w.operators w.items)

pub told_so : (told so : Bool) → told ≡ so → OnTrue told (so ≡ true)
told_so true so e = sym e
told_so false so e = tt

-- one open replication more is clear
pub one_more_clear : (P : ℕ → Bool) (nodes : List Node) (os : List Open) (i : ℕ) (o : Open)
    → i < length os → slice_get os i ≡ Some o → are_clear P nodes (take i os) ≡ true
    → none_between P nodes o.from o.to ≡ true → none_between P nodes o.to o.stop ≡ true
    → are_clear P nodes (take (i + 1) os) ≡ true
one_more_clear P nodes os i o below is so_far body rest =
    list_all_more (is_clear P nodes) os i o below
    ∙ rw (so_far, get_or_from_slice_get os i o o is, body, rest) refl
