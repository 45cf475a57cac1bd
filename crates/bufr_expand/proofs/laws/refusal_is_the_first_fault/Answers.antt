use Rattle.bufr_expand.proofs.FirstFaultFacts.{refuses_exactly, has_tree_or_fault, has_not_both}
use Rattle.bufr_expand.proofs.FirstFaultFacts.{has_one_fault, has_no_tree_at}
use Rattle.bufr_expand.proofs.laws.refusal_is_the_first_fault.Goals as goal

pub returns : goal.returns
returns c = record {
  exactly = refuses_exactly;
  either = has_tree_or_fault;
  never_both =
      has_not_both;
  one = has_one_fault;
  no_case = has_no_tree_at;
}
