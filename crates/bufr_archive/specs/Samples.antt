-- A sample run, for worked values.
use Rattle.std.specs.Prelude.{ℕ, Result, Ok, Err, List, [], ◌∷◌}
use Rattle.bufr_tables.specs.Entries.{Entries}
use Rattle.bufr_archive.specs.Holdings.{DepotView}
use Rattle.bufr_archive.specs.Headline.{NewRun, run_of}
use Rattle.bufr_archive.specs.declared.steps.Step.{Step}
use Rattle.bufr_archive.specs.declared.steps.Step.TheVariants.{Feed, End, Merge}
use Rattle.bufr_archive.specs.declared.steps.Answer.{Answer}
use Rattle.bufr_archive.specs.declared.steps.Answer.TheVariants.{Fed, Ended, Joined}
use Rattle.bufr_archive.specs.declared.steps.StepFault.{StepFault}
use Rattle.bufr_archive.specs.declared.steps.StepFault.TheVariants.{OutOfMemory}

-- slot 0 takes in an octet, at the second try, and its stream ends; slot 1 takes in another octet,
-- then slot 0 while its own stream is open, and its stream ends
abbrev pub steps : List Step
steps = Feed 0 (65 ∷ []) ∷ Feed 0 (65 ∷ []) ∷ End 0 ∷ Feed 1 (67 ∷ []) ∷ Merge 0 1 ∷ End 1 ∷ []

-- their answers
abbrev pub answers : List (Result Answer StepFault)
answers =
    Err (OutOfMemory 0) ∷ Ok (Fed 0 0 0) ∷ Ok (Ended 0 0 0) ∷ Ok (Fed 0 0 0) ∷ Ok Joined
    ∷ Ok (Ended 0 0 0) ∷ []

-- the run of these steps, which left a depot
abbrev pub run : Entries → DepotView → NewRun
run tables left = run_of tables 2 steps answers left
