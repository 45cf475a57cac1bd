use Rattle.bufr_select_rows.proofs.ListedFacts.{lines_with}
use Rattle.bufr_select_rows.proofs.laws.lines_have_descriptors.Goals as goal

pub returns : goal.returns
returns c = lines_with
