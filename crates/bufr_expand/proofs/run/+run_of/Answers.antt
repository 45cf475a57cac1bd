-- The sums of a run, node by node.
use Rattle.std.proofs.Common.{rules, refl, ◌≡◌, ◌-◌, ◌+◌, length, drop, take, ap, sym, ◌∙◌, arith}
use Rattle.std.proofs.Common.{length-drop, [], ℕ, Option, Some}
use Rattle.std.proofs.lemmas.List.{take_all, nil_from_length}
use Rattle.bufr_tables.specs.declared.element.Kind.TheVariants as kinds
use Rattle.bufr_expand.specs.declared.operators.Spec.{Spec}
use Rattle.bufr_expand.specs.OperatorsInForce.{effective}
use Rattle.bufr_expand.specs.Runs.{IsFieldRun}
use Rattle.bufr_expand.specs.Trees.{tree_within}
use Rattle.bufr_expand.proofs.PassFacts.{spec_ok}
use Rattle.bufr_expand.proofs.RunFacts.{no_count, begins_nowhere, begins_joined, begins_element}
use Rattle.bufr_expand.proofs.RunFacts.{begins_untouched, begins_repeated, begins_rest, turns_of_run}
use Rattle.bufr_expand.proofs.run.+run_of.Goals as goal
use Rattle.bufr_expand.proofs.run.+run_of.Goals.{first_run-in-Element+in_ok-spec-in-Element}
use Rattle.bufr_expand.proofs.run.+run_of.Goals.{first_run-in-Untouched+in_ok-spec-in-Untouched}

field_run : (found : Option Spec) (spec : Spec) (bits : ℕ) → found ≡ Some spec
    → (spec.kind ≡ kinds.Count → ⊥) → bits ≡ spec.width
    → IsFieldRun found (record { fields = 1; items = 1; bits = bits })
field_run found spec bits is kind width =
    (spec, is, no_count spec.kind kind, ap (λ n. record { fields = 1; items = 1; bits = n }) width)

pub first_run-returns-in_default : goal.first_run-returns-in_default
first_run-returns-in_default t c =
    let q = c.args.operators.now in
    let run = λ (found : Option Spec) (is : found ≡ Some c.match-first.spec).
    field_run found c.match-first.spec c.from.result is c.in_default.not-Count c.from.ensures in
    elim c.match-first.branch [
      | first_run-in-Element+in_ok-spec-in-Element w ↦
          let o = w.in-Element in
          let spec = w.ok.ensures.value
          ∙ spec_ok w.effective.result (effective o.fxy o.element q)
          (λ e. e ≡ record { 0 = o.fxy }) w.effective.ensures in
          record {
            within = omega arith;
            begins =
                rw o.is (begins_element o.fxy o.element c.args.behind.now q _
                (run _ (sym spec ∙ w.in_ok-spec-in-Element.was ∙ ap Some (sym w.spec-is))));
          }
      | first_run-in-Untouched+in_ok-spec-in-Untouched w ↦
          let o = w.in-Untouched in
          record {
            within = omega arith;
            begins =
                rw o.is (begins_untouched o.field-0 o.element c.args.behind.now q _
                (run _ (sym w.untouched.ensures ∙ w.in_ok-spec-in-Untouched.was
                ∙ ap Some (sym w.spec-is))));
          }
    ]

pub first_run-returns-in-Repeated-clause-begins : goal.first_run-returns-in-Repeated-clause-begins
first_run-returns-in-Repeated-clause-begins t c =
    let o = c.in-Repeated in
    let items : c.in_ok-items-in-Repeated.items ≡ 1 + c.in_ok-turns-in-Repeated.turns.items =
    omega arith in
    rw o.is (begins_repeated o.times o.len _ c.args.behind.now
    c.args.operators.now c.in_ok-turns-in-Repeated.turns _ (search rules) (rw items refl)
    c.in_ok-turns-in-Repeated.ensures)

pub run_of-loop-first-init : goal.run_of-loop-first-init
run_of-loop-first-init t c = record {
  no_more = omega arith;
  so_far = begins_nowhere _ _;
}

pub run_of-loop-first-preserved : goal.run_of-loop-first-preserved
run_of-loop-first-preserved t c =
    let behind = c.in-Some.behind.now in
    let taken = c.in_ok-more.taken in
    let left = drop taken behind in
    let size = length-drop taken behind in
    let rest : take (length behind - taken) left ≡ left = take_all _ left (omega (arith, size)) in
    let shorter = ap length c.in-Some.ensures.cases.0 in
    let so_far = rw c.in-Some.ensures.cases.0 at c.loop-first.invariant.so_far in
    rw rest (record {
      no_more = omega (arith, size, shorter, c.loop-first.invariant.no_more);
      so_far = begins_joined _ _ _ _ c.loop-first.run c.in_ok-more.more _ (rw (
        c.in_ok-fields.ensures.1,
        c.in_ok-items.ensures.1,
        c.in_ok-bits.ensures.1,
      ) refl) so_far c.in_ok-more.ensures.begins;
    })

pub run_of-returns : goal.run_of-returns
unfolding tree_within
run_of-returns t c =
    begins_rest _ _ _ _ [] (nil_from_length _ c.in_default.ensures.cases) c.loop-first.invariant.so_far

pub turns_run-returns : goal.turns_run-returns
turns_run-returns t c =
    let body = c.in_ok-body.body in
    let turn : c.in_ok-turn.turn ≡ 1 + body.items = omega arith in
    turns_of_run c.args.times _ c.args.operators.now body _ (rw (
      c.in_ok-fields.ensures.1,
      c.in_ok-items.ensures.1,
      turn,
      c.in_ok-bits.ensures.1,
      c.from.ensures,
    ) refl) c.in_ok-body.ensures
