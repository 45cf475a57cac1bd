-- The courses begin and are unrollings of the tree.
use Rattle.bufr_data.proofs.CauseFacts.{laws_from, read_refused_first, first_read_refused}
use Rattle.bufr_data.proofs.CauseFacts.{subsets_refused_first, first_subsets_refused}
use Rattle.bufr_data.proofs.RefusalFacts.{none_on_few, few_where_none}
use Rattle.bufr_data.proofs.laws.read_refusals_follow_the_tree.Goals as goal

pub returns : goal.returns
returns c =
    let ends = c.courses_are_unrollings.ensures in
    let begins = c.courses_begin_unrollings.ensures in
    let laws = laws_from ends.unrolled ends.allowed begins.asked begins.lacking begins.too_large
    begins.goes_on in
    record {
      refused = read_refused_first laws;
      cannot_stand = first_read_refused laws;
      subsets_refused = subsets_refused_first laws;
      subsets_cannot_stand = first_subsets_refused laws;
      few_bits = none_on_few;
      none_stands = few_where_none;
    }
