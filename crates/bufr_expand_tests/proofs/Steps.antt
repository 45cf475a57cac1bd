-- What the step of a walk says of the walk, for callers who test for the number of a count.
use Rattle.std.proofs.Common.{◌≡◌, ℕ, Some, None, ◌<◌, ◌^◌, Bool, true, false, Result, Ok, sym, ap}
use Rattle.std.proofs.Common.{◌∙◌, subst}
use Rattle.std.specs.Bool.{MatchBool}
use Rattle.bufr_tables.specs.declared.element.Kind.TheVariants as kinds
use Rattle.bufr_tables.specs.Elements.{same_kind}
use Rattle.bufr_expand.specs.declared.operators.Spec.{Spec}
use Rattle.bufr_expand.specs.declared.walk.Step.{Step}
use Rattle.bufr_expand.specs.declared.walk.Step.TheVariants as steps
use Rattle.bufr_expand.specs.declared.walk.Walk.{Walk}
use Rattle.bufr_expand.specs.declared.walk.WalkFault.{WalkFault}
use Rattle.bufr_expand.specs.Courses.{Course, ends, stops, asks}
use Rattle.bufr_expand_tests.specs.StepAnswers.{asked_width}
use Rattle.bufr_expand.specs.Walks.{left, waits, items_met, Goes, Counted, IsBelowCount}

-- a walk that waits for a number of `width` bits
pub record AsksBits (width : ℕ) (w : Walk) : Type 0 where
  pub waiting : waits w ≡ true
  pub below : (n : ℕ) → n < 2 ^ width → IsBelowCount (left w) n
  pub answered : (n : ℕ) (v : Walk) → Counted (left w) n v → waits v ≡ false

asks_for : (met d k : ℕ) (s : Spec) (more : ℕ → Course) (w : Walk) → k ≡ s.width
    → left w ≡ asks met d s more → waits w ≡ true → AsksBits k w
asks_for met d k s more w same l h = record {
  waiting = h;
  below = λ n b. let P : Course → Type 0 = λ c. IsBelowCount c n in
      subst P (sym l) (let Q : ℕ → Type 0 = λ v. n < 2 ^ v in subst Q same b);
  answered = λ n v k. let P : Course → Type 0 = λ c. Counted c n v in (subst P l k).1;
}

-- what a step at a field leaves, by its kind
abbrev GoesAt : Bool → ℕ → ℕ → Spec → (ℕ → Course) → Result Step WalkFault → Walk → Type 0
GoesAt counts met d s more answer w =
    MatchBool counts
    ((answer ≡ Ok (steps.Count d s)) × (left w ≡ asks met d s more) × (waits w ≡ true)
    × (items_met w ≡ met))
    ((answer ≡ Ok (steps.Field d s)) × (left w ≡ more 0) × (waits w ≡ false)
    × (items_met w ≡ met))

bits_at : (counts : Bool) (met d : ℕ) (s : Spec) (more : ℕ → Course)
    (answer : Result Step WalkFault) (w : Walk) (k : ℕ) → GoesAt counts met d s more answer w
    → Some k ≡ asked_width answer → AsksBits k w
bits_at true met d s more answer w k h e =
    let width : Some k ≡ Some s.width = e ∙ ap asked_width h.0 in
    asks_for met d k s more w (cc) h.1 h.2
bits_at false met d s more answer w k h e =
    let none : Some k ≡ None = e ∙ ap asked_width h.0 in absurd cc

none_at : (counts : Bool) (met d : ℕ) (s : Spec) (more : ℕ → Course)
    (answer : Result Step WalkFault) (w : Walk) → GoesAt counts met d s more answer w
    → None ≡ asked_width answer → waits w ≡ false
none_at true met d s more answer w h e =
    let width : None ≡ Some s.width = e ∙ ap asked_width h.0 in absurd cc
none_at false met d s more answer w h e = h.2

pub asks_bits : (c : Course) (answer : Result Step WalkFault) (w : Walk) (k : ℕ) → Goes c answer w
    → Some k ≡ asked_width answer → AsksBits k w
asks_bits (ends n) answer w k h e =
    let none : Some k ≡ None = e ∙ ap asked_width h.0 in absurd cc
asks_bits (stops n fault) answer w k h e =
    let none : Some k ≡ None = e ∙ ap asked_width h.0 in absurd cc
asks_bits (asks met d s more) answer w k h e =
    bits_at (same_kind s.kind kinds.Count) met d s more answer w k h e

pub asks_none : (c : Course) (answer : Result Step WalkFault) (w : Walk) → Goes c answer w
    → None ≡ asked_width answer → waits w ≡ false
asks_none (ends n) answer w h e = h.2
asks_none (stops n fault) answer w h e = h.2
asks_none (asks met d s more) answer w h e =
    none_at (same_kind s.kind kinds.Count) met d s more answer w h e
