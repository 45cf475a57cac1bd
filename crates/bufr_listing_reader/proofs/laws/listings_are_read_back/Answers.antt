use Rattle.bufr_listing_reader.proofs.ShownFacts.{listing_read_back}
use Rattle.bufr_listing_reader.proofs.laws.listings_are_read_back.Goals as goal

pub returns : goal.returns
returns c =
    record {
      read =
          listing_read_back (record {
            descriptors = c.descriptor_texts.ensures;
            specs = c.courses_are_steady.ensures.in_range;
            builds = c.templates_are_trees.ensures.built;
            refuses = c.templates_are_trees.ensures.refused;
            fit = c.counted_subsets_fit.ensures.all_fit;
            counted = c.counted_subsets_fit.ensures.all_counted;
          });
    }
