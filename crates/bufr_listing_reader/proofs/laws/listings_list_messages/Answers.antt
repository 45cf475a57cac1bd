use Rattle.bufr_listing_reader.proofs.LowerLaws.{LowerLaws}
use Rattle.bufr_listing_reader.proofs.TextFacts.{read_listed, listed_read}
use Rattle.bufr_listing_reader.proofs.laws.listings_list_messages.Goals as goal

laws_of : goal.After-counted_subsets_fit → LowerLaws
laws_of c =
    record {
      descriptors = c.descriptor_texts.ensures;
      specs = c.courses_are_steady.ensures.in_range;
      builds = c.templates_are_trees.ensures.built;
      refuses = c.templates_are_trees.ensures.refused;
      fit = c.counted_subsets_fit.ensures.all_fit;
      counted = c.counted_subsets_fit.ensures.all_counted;
    }

pub returns-clause-read : goal.returns-clause-read
returns-clause-read c = read_listed (laws_of c)

pub returns-clause-listed : goal.returns-clause-listed
returns-clause-listed c = listed_read (laws_of c)
