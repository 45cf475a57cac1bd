-- The courses begin and are unrollings of the tree.
use Rattle.bufr_data.proofs.CauseFacts.{laws_from, write_refused_first, first_write_refused}
use Rattle.bufr_data.proofs.CauseFacts.{written_refused_first, first_written_refused}
use Rattle.bufr_data.proofs.laws.write_refusals_follow_the_tree.Goals as goal

pub returns : goal.returns
returns c =
    let ends = c.courses_are_unrollings.ensures in
    let begins = c.courses_begin_unrollings.ensures in
    let laws = laws_from ends.unrolled ends.allowed begins.asked begins.lacking begins.too_large
    begins.goes_on in
    record {
      refused = write_refused_first laws;
      misfit = first_write_refused laws;
      subsets_refused = written_refused_first laws;
      subsets_misfit = first_written_refused laws;
    }
