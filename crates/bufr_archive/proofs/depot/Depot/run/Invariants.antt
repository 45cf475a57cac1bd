use Rattle.std.proofs.Common.{◌≡◌, length}
use Rattle.std.specs.Vec.{vec_capacity}
use Rattle.bufr_archive.proofs.JoinFacts.{RunSoFar}
use Rattle.bufr_archive.proofs.depot.Depot.run.Given as goal

-- the answers are those of a run of the steps before this one, with room for the rest
abbrev pub invariant-loop-step : goal.invariant-loop-step
invariant-loop-step g l =
    RunSoFar l.fn.self l.self l.fn.steps l.answers.items l.step-index
    × (vec_capacity l.answers ≡ length l.fn.steps)
