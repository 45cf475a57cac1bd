-- Each file is the text of its streams' reports, and what an archive keeps of these depends on
-- their messages alone.
use Rattle.bufr_engines.proofs.WayFacts.{any_way}
use Rattle.bufr_engines.proofs.laws.any_way_writes_the_same.Goals as goal

pub returns : goal.returns
returns c =
    any_way c.texts_are_cut_apart.ensures.told c.reports_told_are_under.ensures
    c.same_messages_same_kept.ensures
