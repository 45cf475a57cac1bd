use Rattle.bufr_expand.proofs.FlatFacts.{expands_exactly, expands_to_trees, has_one_tree}
use Rattle.bufr_expand.proofs.FlatFacts.{has_enough_levels}
use Rattle.bufr_expand.proofs.laws.expansion_is_the_tree_of_a_list.Goals as goal

pub returns : goal.returns
returns c = record {
  exactly = expands_exactly;
  trees = expands_to_trees;
  one =
      has_one_tree;
  levels = has_enough_levels;
}
