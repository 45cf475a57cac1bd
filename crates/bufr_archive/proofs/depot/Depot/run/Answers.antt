-- Step by step.
use Rattle.std.proofs.Common.{◌∙◌, ◌+◌, sym, subst, arith}
use Rattle.std.proofs.lemmas.List.{take_all}
use Rattle.bufr_archive.specs.Runs.{Run, after_all}
use Rattle.bufr_archive.specs.Holdings.{StandsFor}
use Rattle.bufr_archive.specs.HeldSteps.{StepDoes}
use Rattle.bufr_archive.proofs.JoinFacts.{RunSoFar, none_run, one_run}
use Rattle.bufr_archive.proofs.depot.Depot.run.Goals as goal

pub loop-step-init : goal.loop-step-init
loop-step-init g c =
    let d = c.args.self.now in (
      subst (λ found. RunSoFar d d c.args.steps.now found 0) (sym c.in_ok-answers.ensures.items)
          (none_run d c.args.steps.now),
      c.in_ok-answers.ensures.exact,
    )

pub push_reserved-requires : goal.push_reserved-requires
push_reserved-requires g c =
    let a = c.loop-step.answers.ok.0 in let b = c.loop-step.invariant.0.count in
    let room = c.loop-step.invariant.1 in let below = c.loop-step-test.true in
    omega (arith, a, b, room, below)

pub loop-step-preserved : goal.loop-step-preserved
loop-step-preserved g c =
    let does : StepDoes c.loop-step.self c.step.new.self c.step-item.result c.step.result = record {
      tables = c.step.ensures.tables;
      answer = c.step.ensures.answer;
      slots = c.step.ensures.slots;
    } in (
      subst (λ found. RunSoFar c.args.self.now c.step.new.self c.args.steps.now found
          (c.loop-step.step-index + 1)) (sym c.push_reserved.ensures.items)
          (one_run c.args.self.now c.loop-step.self c.step.new.self c.args.steps.now
          c.loop-step.answers.items c.loop-step.step-index
          c.step-item.result c.step.result c.loop-step-test.true c.step-item.is
          c.loop-step.invariant.0 does),
      c.push_reserved.ensures.capacity ∙ c.loop-step.invariant.1,
    )

pub returns-clause-tables : goal.returns-clause-tables
returns-clause-tables g c = c.loop-step.invariant.0.tables

pub returns-clause-answers : goal.returns-clause-answers
returns-clause-answers g c = λ slots z.
    subst (λ steps. Run c.args.self.now.tables steps c.loop-step.answers.items slots)
    (take_all c.loop-step.step-index c.args.steps.now c.loop-step-test.false)
    (c.loop-step.invariant.0.run slots z)

pub returns-clause-slots : goal.returns-clause-slots
returns-clause-slots g c = λ slots z.
    subst (λ steps. StandsFor c.loop-step.self
    (after_all c.args.self.now.tables steps c.loop-step.answers.items slots))
    (take_all c.loop-step.step-index c.args.steps.now c.loop-step-test.false)
    (c.loop-step.invariant.0.stands slots z)
