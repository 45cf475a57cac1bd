use Rattle.bufr_select_rows.proofs.SameLines.{same_rows}
use Rattle.bufr_select_rows.proofs.laws.lines_determine_rows.Goals as goal

pub returns : goal.returns
returns c = same_rows
