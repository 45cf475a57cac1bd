-- Replications before a place, and open ones: the invariant of a walk.
use Rattle.std.proofs.Common.{◌≡◌, ℕ, ◌+◌, ◌≤◌, cond, List, [], ◌∷◌, ◌++◌, length, take, sym, ap}
use Rattle.std.proofs.Common.{◌∙◌, subst, arith}
use Rattle.std.proofs.lemmas.List.{take-take, length_push}
use Rattle.std.proofs.lemmas.List.Sums.{sum_by-take-le}
use Rattle.std.specs.Vec.{vec_capacity}
use Rattle.bufr_expand.specs.declared.node.Node.{Node}
use Rattle.bufr_expand.specs.declared.walk_state.Open.{Open}
use Rattle.bufr_expand.specs.declared.walk_state.State.{State}
use Rattle.bufr_expand.specs.declared.walk_state.State.TheVariants as states
use Rattle.bufr_expand.specs.declared.walk.Walk.{Walk}
use Rattle.bufr_expand.specs.Places.{repeats, replications, in_front, begins, awaited, IsOpen}
use Rattle.bufr_expand.specs.Places.{AreOpen}

pub in_front-mono : (ns : List Node) (i j : ℕ) → i ≤ j → in_front ns i ≤ in_front ns j
in_front-mono ns i j h = rw (take-take i j ns h) at
    (sum_by-take-le (λ n. cond (repeats n) 1 0) (take j ns) i)

AreOpen-push : (ns : List Node) (depth : ℕ) (os : List Open) (o : Open) (n : ℕ)
    → n ≡ depth + length os → AreOpen ns depth os → IsOpen ns n o → AreOpen ns depth (os ++ o ∷ [])
unfolding AreOpen
AreOpen-push ns depth [] o n e h k =
    let at : n ≡ depth = omega arith in
    let P : ℕ → Type 0 = λ m. IsOpen ns m o in
    (subst P at k, tt)
AreOpen-push ns depth (p ∷ os) o n e h k =
    (h.0, AreOpen-push ns (depth + 1) os o n (omega arith) h.1 k)

AreOpen-pop : (ns : List Node) (depth : ℕ) (os : List Open) (o : Open) (n : ℕ)
    → n ≡ depth + length os → AreOpen ns depth (os ++ o ∷ []) → AreOpen ns depth os × IsOpen ns n o
unfolding AreOpen
AreOpen-pop ns depth [] o n e h =
    let at : depth ≡ n = omega arith in
    let P : ℕ → Type 0 = λ m. IsOpen ns m o in
    (tt, subst P at h.0)
AreOpen-pop ns depth (p ∷ os) o n e h =
    let r = AreOpen-pop ns (depth + 1) os o n (omega arith) h.1 in
    ((h.0, r.0), r.1)

pub open_more : (ns : List Node) (os all : List Open) (o : Open) → all ≡ os ++ o ∷ []
    → AreOpen ns 0 os → IsOpen ns (length os) o → AreOpen ns 0 all × (length all ≡ length os + 1)
open_more ns os all o e h k =
    let P : List Open → Type 0 = λ l. AreOpen ns 0 l in (
      subst P (sym e) (AreOpen-push ns 0 os o (length os) (omega arith) h k),
      ap length e ∙ length_push os o,
    )

pub open_fewer : (ns : List Node) (os all : List Open) (o : Open) → all ≡ os ++ o ∷ []
    → AreOpen ns 0 all
    → AreOpen ns 0 os × IsOpen ns (length os) o × (length all ≡ length os + 1)
open_fewer ns os all o e h =
    let P : List Open → Type 0 = λ l. AreOpen ns 0 l in
    let r = AreOpen-pop ns 0 os o (length os) (omega arith) (subst P e h) in
    (r.0, r.1, ap length e ∙ length_push os o)

pub inside_of : (s : State) (ns : List Node) (place k : ℕ) → s ≡ states.Going
    → k + awaited s ≤ in_front ns (begins s place) → k ≤ in_front ns place
inside_of s ns place k e h =
    let P : State → Type 0 = λ v. k + awaited v ≤ in_front ns (begins v place) in
    let g : k + 0 ≤ in_front ns place = subst P e h in omega arith

pub going_at : (s : State) (ns : List Node) (place k : ℕ) → s ≡ states.Going
    → k ≤ in_front ns place
    → (begins s place ≤ place) × (k + awaited s ≤ in_front ns (begins s place))
going_at s ns place k e h =
    let P : State → Type 0 = λ v. (begins v place ≤ place)
    × (k + awaited v ≤ in_front ns (begins v place)) in
    let g : place ≤ place = omega arith in
    let i : k + 0 ≤ in_front ns place = omega arith in
    subst P (sym e) (g, i)

pub going_on : (w : Walk) (t : State) (to : ℕ) → w.state ≡ states.Going → t ≡ states.Going
    → w.place ≤ to → to ≤ length w.nodes.now → record {
      within : (to ≤ length w.nodes.now) × (w.stop ≤ length w.nodes.now);
      in_bodies : AreOpen w.nodes.now 0 w.loops.items;
      has_begun : begins t to ≤ to;
      is_inside : length w.loops.items + awaited t ≤ in_front w.nodes.now (begins t to);
      has_room : replications w.nodes.now ≤ vec_capacity w.loops;
    }
going_on w t to goes e h fits =
    let inside = inside_of w.state w.nodes.now w.place (length w.loops.items) goes w.is_inside in
    let at = going_at t w.nodes.now to (length w.loops.items) e
    (omega (arith, inside, in_front-mono w.nodes.now w.place to h)) in
    record {
      within = (fits, w.within.1);
      in_bodies = w.in_bodies;
      has_begun = at.0;
      is_inside = at.1;
      has_room = w.has_room;
    }
