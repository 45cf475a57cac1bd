use Rattle.bufr_message.proofs.CanBeAlone.{edition_4_asks_no_more}
use Rattle.bufr_message.proofs.laws.edition_4_asks_no_more.Goals as goal

pub returns : goal.returns
returns c = edition_4_asks_no_more c.laws_below.ensures
