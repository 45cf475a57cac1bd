use Rattle.bufr_select_engine.proofs.ListedFacts.{listings_determine}
use Rattle.bufr_select_engine.proofs.laws.listings_determine_rows.Goals as goal

pub returns : goal.returns
returns c = listings_determine c.lines_determine_rows.ensures
