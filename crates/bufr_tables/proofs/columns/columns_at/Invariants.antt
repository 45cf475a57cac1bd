use Rattle.std.proofs.Common.{map}
use Rattle.bufr_tables.proofs.ColumnFacts.{ColumnsSoFar}
use Rattle.bufr_tables.proofs.columns.columns_at.Given as goal

-- all places are those found, and then those of the columns left
abbrev pub invariant-loop-column : goal.invariant-loop-column
invariant-loop-column l =
    ColumnsSoFar (map (λ s. s.now) l.names) l.needed l.column-index l.places.items
