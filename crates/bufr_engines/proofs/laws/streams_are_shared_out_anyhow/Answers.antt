-- Group by group, the text of an archive has the reports that the archive keeps.
use Rattle.bufr_engines.proofs.LawFacts.{shared}
use Rattle.bufr_engines.proofs.laws.streams_are_shared_out_anyhow.Goals as goal

pub returns : goal.returns
returns c = shared c.texts_are_cut_apart.ensures.told
