use Rattle.bufr_tables.specs.EntryLaws.{Rising-insert}
use Rattle.bufr_tables.proofs.sequence_rows.end.Goals as goal

pub returns-clause-rising : goal.returns-clause-rising
returns-clause-rising c = rw c.in_ok-insert.ensures.entries (Rising-insert _ _ _ c.requires)
