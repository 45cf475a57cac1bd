-- The courses are the unrollings of the tree.
use Rattle.bufr_data.proofs.FitFacts.{read_stands, standing_read, all_read_stand, all_standing_read}
use Rattle.bufr_data.proofs.FitFacts.{written_fit, fitting_written}
use Rattle.bufr_data.proofs.laws.fitting_subsets_are_read_and_written.Goals as goal

pub returns : goal.returns
returns c =
    let law = c.courses_are_unrollings.ensures in
    record {
      subset_stands = read_stands law.unrolled;
      subset_is_read = standing_read law.allowed;
      subsets_stand = all_read_stand law.unrolled;
      subsets_are_read = all_standing_read law.allowed;
      written_fit = written_fit law.unrolled;
      fitting_are_written = fitting_written law.allowed;
    }
