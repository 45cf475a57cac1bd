use Rattle.bufr_select_rows.proofs.ListedFacts.{value_listed}
use Rattle.bufr_select_rows.proofs.laws.values_are_listed.Goals as goal

pub returns : goal.returns
returns c = value_listed
