use Rattle.bufr_select_rows.proofs.ListedFacts.{facts_listed}
use Rattle.bufr_select_rows.proofs.laws.facts_are_listed.Goals as goal

pub returns : goal.returns
returns c = facts_listed
