-- What a caller reads from a step.
use Rattle.std.specs.Prelude.{ℕ, Option, Some, None, Result, Ok, Err}
use Rattle.bufr_expand.specs.declared.walk.Step.{Step}
use Rattle.bufr_expand.specs.declared.walk.Step.TheVariants as steps
use Rattle.bufr_expand.specs.declared.walk.WalkFault.{WalkFault}

-- the width of the number that a step asks for
abbrev pub asked_width : Result Step WalkFault → Option ℕ
asked_width (Ok (steps.Count d s)) = Some s.width
asked_width (Ok (steps.Field d s)) = None
asked_width (Ok steps.End) = None
asked_width (Err f) = None
