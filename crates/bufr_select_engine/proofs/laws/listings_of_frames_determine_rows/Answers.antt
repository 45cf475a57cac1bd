use Rattle.bufr_select_engine.proofs.DescriptorFacts.{frames_determine}
use Rattle.bufr_select_engine.proofs.laws.listings_of_frames_determine_rows.Goals as goal

pub returns : goal.returns
returns c = frames_determine c.lines_determine_rows.ensures c.messages_are_spelt.ensures.read
