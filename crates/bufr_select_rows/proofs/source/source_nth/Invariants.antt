-- The loop of `source_nth`: the columns that are left.
use Rattle.std.proofs.Common.{◌≡◌, ◌-◌, drop, length}
use Rattle.bufr_select_rows.specs.Sources.{source_from, source_nth}
use Rattle.bufr_select_rows.proofs.source.source_nth.Given as goal

-- the source is found among the columns that are left
abbrev pub invariant-columns : goal.invariant-columns
invariant-columns l = source_from l.fxy l.ahead l.index (drop l.index l.columns.columns)
    ≡ source_nth l.fxy l.number l.columns.columns

-- the columns that are left
abbrev pub decreases-columns : goal.decreases-columns
decreases-columns l = length l.columns.columns - l.index
