use Rattle.bufr_frame.specs.NextFrameLaws.{handed_first, handed_end}
use Rattle.bufr_frame.specs.NextFrameLaws.{between_fed, between_first, between_one, between_none}
use Rattle.bufr_frame.proofs.laws.frames_taken_are_the_sure_ones.Goals as goal

pub returns : goal.returns
returns c = record {
  first = handed_first;
  piece = between_first;
  one = between_one;
  room = between_fed;
  none = between_none;
  end = handed_end;
}
