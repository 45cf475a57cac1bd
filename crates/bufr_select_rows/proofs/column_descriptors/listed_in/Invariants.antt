use Rattle.bufr_select_rows.proofs.ChosenFacts.{ListsBelow}
use Rattle.bufr_select_rows.proofs.column_descriptors.listed_in.Given as goal

-- the marked descriptors before are listed
abbrev pub invariant-loop-index : goal.invariant-loop-index
invariant-loop-index l = ListsBelow l.cells l.index l.listed.items
