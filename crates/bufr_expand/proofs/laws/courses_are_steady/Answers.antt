use Rattle.bufr_expand.specs.Steady.{course_steady}
use Rattle.bufr_expand.proofs.FieldLimits.{course_in_range, course_asked}
use Rattle.bufr_expand.proofs.laws.courses_are_steady.Goals as goal

pub returns : goal.returns
returns c = record {
  steady = course_steady;
  in_range = course_in_range;
  within_limits = course_asked;
}
