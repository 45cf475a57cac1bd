-- The courses are the unrollings of the template's tree.
use Rattle.bufr_fields.specs.FitLaws.{counted_fit, fitting_counted, all_counted_fit}
use Rattle.bufr_fields.specs.FitLaws.{all_fitting_counted}
use Rattle.bufr_fields.proofs.laws.counted_subsets_fit.Goals as goal

pub returns : goal.returns
returns c =
    let law = c.courses_are_unrollings.ensures in
    record {
      fit = counted_fit law.unrolled;
      counted = fitting_counted law.allowed;
      all_fit = all_counted_fit law.unrolled;
      all_counted = all_fitting_counted law.allowed;
    }
