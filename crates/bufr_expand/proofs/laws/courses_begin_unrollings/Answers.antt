use Rattle.bufr_expand.proofs.UnrollFacts.{asked, lacking, too_large, goes_on, front}
use Rattle.bufr_expand.proofs.laws.courses_begin_unrollings.Goals as goal

pub returns : goal.returns
returns c = record {
  asked = asked;
  lacking = lacking;
  too_large = too_large;
  goes_on =
      goes_on;
  front = front;
}
