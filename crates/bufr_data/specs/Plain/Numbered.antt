-- Faults by the number of the subset in its message.
use Rattle.std.specs.Prelude.{ℕ, List, ◌++◌, Result, Ok, Err}
use Rattle.bufr_base.specs.Answers.{◌>>=◌}
use Rattle.bufr_base.specs.declared.failure.Failure.{Failure}
use Rattle.bufr_base.specs.declared.failure.Failure.TheVariants.{Fault, OutOfMemory}
use Rattle.bufr_fields.specs.declared.field.Subset.{Subset}
use Rattle.bufr_fields.specs.declared.fault.DataFault.{DataFault}
use Rattle.bufr_fields.specs.declared.fault.DataFault.TheVariants as faults
use Rattle.bufr_data.specs.Plain.{SubsetsRead}

-- a fault with the number of its subset
abbrev pub of_subset : ℕ → DataFault → DataFault
of_subset j (faults.DataEnds k i) = faults.DataEnds j i
of_subset j (faults.EffectiveRange d) = faults.EffectiveRange d
of_subset j (faults.UnequalCounts i) = faults.UnequalCounts i
of_subset j (faults.IncrementRange k i) = faults.IncrementRange k i
of_subset j (faults.CharIncrement i) = faults.CharIncrement i
of_subset j faults.TooLarge = faults.TooLarge

-- a failure with the number of its subset
abbrev pub failure_of_subset : ℕ → Failure DataFault → Failure DataFault
failure_of_subset j (Fault fault) = Fault (of_subset j fault)
failure_of_subset j OutOfMemory = OutOfMemory

-- a reading with the number of its subset in the fault
abbrev pub numbered : {A : Type 0} → ℕ → Result A DataFault → Result A DataFault
numbered j (Ok found) = Ok found
numbered j (Err fault) = Err (of_subset j fault)

-- the subsets read before, and then those found
abbrev pub after : List Subset → Result SubsetsRead DataFault → Result SubsetsRead DataFault
after before found = found >>= λ all. Ok (record all { subsets = before ++ all.subsets })
